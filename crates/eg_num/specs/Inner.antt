pub mod PedalWord
