-- The same by recursion: the visit of a run, and place by place.
pub mod Visits
pub mod OnePlace
pub mod PlaceByPlace
