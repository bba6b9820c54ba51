pub mod Numbers
pub mod SmallWidths
pub mod LostWays
pub mod ClashSteps
pub mod AimedSteps
pub mod NamedParts
pub mod Chains
pub mod CountedLimits
pub mod NewNames
pub mod NewLinks
pub mod ToldHosts
pub mod SaidTransactions
pub mod KeptNetworks
pub mod LoadedNetworks
mod BundleExamples
