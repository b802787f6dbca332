pub mod NeverSetUp
