-- What stands after a refusal, after a statement that changes nothing, and after a write.
use Rattle.std.proofs.Common.{◌⊎◌, inl, inr, ℕ, false, IsTrue, if◌then◌else◌, List, Option, None, Some, Err, sym, ap, ◌∙◌, subst}
use Rattle.sqlite.specs.Command.{Command}
use Rattle.sqlite.specs.Order.{Row}
use Rattle.sqlite.specs.State.{State, ExecutesIn, Executes, FailsToQuery, FailsToShow, IsUnchanged, IsRolledBack, Writes}
use Rattle.sqlite.specs.declared.error.Error.{Error}
use Rattle.sqlite.proofs.InsideLemmas.{fails_whole}
use Rattle.sqlite_resolve.specs.declared.compiled.Compiled.{Compiled}
use Rattle.sqlite_schema.specs.declared.command.Returning.{Returning}
use Rattle.mt_keeper_sql.specs.Standing.{Stands, Leaves}
use Rattle.mt_keeper_sql.specs.Store.{Holds}

module _ (old new : State) (texts : List (List ℕ)) (stands : Stands old texts) where
  pub unchanged_leaves : IsUnchanged old new → Leaves old new texts
  unchanged_leaves same = record {
    was_open = same.0.was_open;
    stands = record {
      autocommit = same.0.mode ∙ stands.autocommit;
      committed = λ is_open. same.0.now_is ∙ stands.committed same.0.was_open ∙ sym same.0.committed_is;
      holds = subst (λ db. Holds db texts) (sym same.0.now_is) stands.holds;
    };
  }

  whole_leaves : IsUnchanged old new ⊎ IsRolledBack old new → IsTrue new.is_open → Leaves old new texts
  whole_leaves (inl same) is_open = unchanged_leaves same
  whole_leaves (inr back) is_open = record {
    was_open = back.was_open is_open;
    stands = record {
      autocommit = back.autocommit;
      committed = λ h. (back.undone is_open).0 ∙ sym (back.undone is_open).1;
      holds = subst (λ db. Holds db texts) (stands.committed (back.was_open is_open) ∙ sym (back.undone is_open).0) stands.holds;
    };
  }

  pub refused_leaves : (sql : List ℕ) (params : Row) (e : Error) → Executes sql params old new (Err e) → IsTrue new.is_open → Leaves old new texts
  refused_leaves sql params e h = whole_leaves (fails_whole old new false sql params e h)

  shows_leaves : (sql : List ℕ) (c : Compiled) (params : Row) (e : Error) (returning : Option Returning) → FailsToShow old new sql c params e returning → IsTrue new.is_open → Leaves old new texts
  shows_leaves sql c params e None h = whole_leaves (inl h.3)
  shows_leaves sql c params e (Some what) (inl h) = whole_leaves (inl h.1)
  shows_leaves sql c params e (Some what) (inr h) = whole_leaves (inr h.3)

  pub not_shown_leaves : (sql : List ℕ) (params : Row) (e : Error) → FailsToQuery sql params old new e → IsTrue new.is_open → Leaves old new texts
  unfolding FailsToQuery ExecutesIn
  not_shown_leaves sql params e (inl h) = whole_leaves (fails_whole old new false sql params e (inl h))
  not_shown_leaves sql params e (inr h) = shows_leaves sql h.0 _ e h.0.returning h.2

  -- a write outside a transaction is committed
  pub written_leaves : (returning : Option Returning) (command : Command) (text : List ℕ) (params : Row) (count : ℕ) (more : List (List ℕ)) → Writes old new returning command text params count → Holds new.now more → Leaves old new more
  written_leaves returning command text params count more w holds = record {
    was_open = w.shown.was_open;
    stands = record {
      autocommit = w.shown.mode ∙ stands.autocommit;
      committed = λ h. sym (w.shown.committed_is ∙ ap (λ b. if b then old.committed else new.now) stands.autocommit);
      holds = holds;
    };
  }
