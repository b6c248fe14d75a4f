pub mod Rebase
