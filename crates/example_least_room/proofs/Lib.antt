pub mod LongerParksCase
