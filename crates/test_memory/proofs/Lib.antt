-- copies.rt: the first file of a name, and the first entry of that name
pub mod EntryLemmas
