pub mod BigEndian
pub mod Layouts
pub mod Memory
pub mod LayoutsLemmas
pub mod BigEndianLemmas
