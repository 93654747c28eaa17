pub mod Ends
pub mod Extended
pub mod FirstLevels
pub mod AllPaths
pub mod Goes
pub mod RelationTerms
pub mod NumberLists
