-- What clauses read of a feed over a sink.
use Rattle.std.specs.Prelude.{ℕ}
use Rattle.mt_feed.specs.declared.lines.LinesFeed.{LinesFeed}

-- how many lines failed
abbrev pub feed_faults : {W : Type 0} → LinesFeed W → ℕ
feed_faults feed = feed.faults

-- the sink
abbrev pub feed_sink : {W : Type 0} → LinesFeed W → W
feed_sink feed = feed.sink
