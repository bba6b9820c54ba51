pub mod States
pub mod DrawnTransactions
pub mod TransactionLists
pub mod GeneratedNetworks
pub mod GeneratedRows
pub mod GeneratorExamples
