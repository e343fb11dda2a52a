pub mod CellLemmas
mod BlockLemmas
mod ClauseLemmas
mod CountLemmas
mod FreeLemmas
mod MemoryLemmas
mod RewatchLemmas
mod RoomLemmas
mod SlotLemmas
mod SwapLemmas
