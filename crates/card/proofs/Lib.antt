pub mod KindJudged
pub mod Accepted
pub mod CutOff
