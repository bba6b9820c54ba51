pub mod Orders
pub mod Rounds
pub mod SideBySide
pub mod SomeTurns
