pub mod Judging
pub mod OneJudgement
