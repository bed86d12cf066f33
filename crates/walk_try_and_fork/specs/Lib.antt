pub mod AttemptLaws
