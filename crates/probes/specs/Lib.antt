-- What each probe answers.
pub mod Probes
