-- SetTest: the back-test of a set. SameCells: a set is cut by its size. TestLaws: the answer, part
-- by part.
pub mod SetTest
pub mod SameCells
pub mod TestLaws
