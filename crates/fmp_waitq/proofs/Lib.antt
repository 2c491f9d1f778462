pub mod ReorderLemmas
