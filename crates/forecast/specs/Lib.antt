-- ReadFile: questions 1 to 6 of a file. FileLaws: its forecast. OwnDelays: delays solved here and
-- handed in as given.
pub mod ReadFile
pub mod FileLaws
pub mod SmallEntries
pub mod OwnDelays
