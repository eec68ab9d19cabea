mod KeeperLemmas
mod QueryLemmas
mod RowLemmas
mod StandingLemmas
mod StatementLemmas
mod Texts
