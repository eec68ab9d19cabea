use Rattle.mt_table.proofs.published.TableGrowingEvent.grow.Given as goal

abbrev pub ghosts-grown : goal.ghosts-grown
ghosts-grown a = record { name = a.blank.name; parts = a.blank.parts }
