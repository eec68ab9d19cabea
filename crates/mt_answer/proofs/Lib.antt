pub mod PlaceLemmas
pub mod ClaimLemmas
pub mod ValueLemmas
pub mod LineLemmas
pub mod FieldLemmas
pub mod SheetLemmas
pub mod BodyLemmas
