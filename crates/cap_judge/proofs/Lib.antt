pub mod RuleCosts
