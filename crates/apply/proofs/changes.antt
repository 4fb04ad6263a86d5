pub mod CodeLaws
pub mod MemberLaws
