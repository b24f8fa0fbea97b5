pub mod VerifierAnswers
