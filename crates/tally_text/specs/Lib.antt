-- Laws of the text of a tally.
pub mod TallyTextLaws
