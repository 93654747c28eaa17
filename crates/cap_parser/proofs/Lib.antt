pub mod CommandLaws
pub mod BlockLaws
pub mod ScriptLaws
pub mod TextLaws
