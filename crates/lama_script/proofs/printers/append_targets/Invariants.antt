use Rattle.std.proofs.Common.{◌≡◌, ◌++◌, take, drop, vec_len}
use Rattle.std.specs.Prelude.{flat_map}
use Rattle.lama_model.specs.Lines.{target_text}
use Rattle.lama_script.proofs.printers.append_targets.Given as goal

abbrev pub invariant-loop-i : goal.invariant-loop-i
invariant-loop-i l = record {
  so_far : l.out.items ++ flat_map target_text (drop l.i l.targets) ≡ l.fn.out.items ++ flat_map target_text l.targets;
  begins : take (vec_len l.fn.out) l.out.items ≡ l.fn.out.items;
}
