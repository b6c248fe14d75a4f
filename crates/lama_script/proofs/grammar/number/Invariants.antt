use Rattle.std.proofs.Common.{◌≡◌, ◌≤◌, drop}
use Rattle.lama_model.specs.Script.{number}
use Rattle.lama_script.proofs.Numbers.{number_from}
use Rattle.lama_script.proofs.grammar.number.Given as goal

abbrev pub invariant-loop-byte : goal.invariant-loop-byte
invariant-loop-byte l = record {
  within : l.value ≤ 4294967295;
  rest : number_from l.value (drop l.byte-index l.word) ≡ number l.word;
}
