-- Laws of the closing page.
pub mod PageLaws
