use Rattle.mt_strength.proofs.counted_search.+first_below.Given as goal

abbrev pub decreases-first_below : goal.decreases-first_below
decreases-first_below g l = l.n
