pub mod RoundedLawful
