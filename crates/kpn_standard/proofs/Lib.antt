pub mod Laws
pub mod LawfulEnds
pub mod LawfulCopies
pub mod LawfulArithmetic
pub mod LawfulMerging
pub mod LawfulFlags
pub mod LawfulKinds
