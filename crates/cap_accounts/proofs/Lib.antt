pub mod ArgumentNeeds
pub mod OneMore
