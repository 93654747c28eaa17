pub mod TypedRules
