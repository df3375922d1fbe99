pub mod Costs
pub mod QuotientLaws
pub mod CostsLaws
