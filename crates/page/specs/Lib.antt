-- Laws of the closing page of a file. PageReads: what is read at each line and column of a page.
pub mod PageReads
pub mod ReadingLaws
pub mod PageReadsLaws
pub mod PageCall
