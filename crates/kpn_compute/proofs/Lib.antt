pub mod BothLawful
pub mod FilteredLawful
