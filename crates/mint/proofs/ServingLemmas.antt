-- How serving ends, from its words and from what its desk refused.
use Rattle.std.proofs.Common.{◌≡◌, ◌≢◌, ℕ, ◌<◌, ◌≤◌, List, None, Some, Err, inr, refl, subst, arith, decimal}
use Rattle.std.proofs.lemmas.Fmt.{decimal_injective}
use Rattle.mt_cells.specs.declared.bounds.Bounds.{Bounds}
use Rattle.mt_derive.specs.declared.events.Event.{Event}
use Rattle.mt_service.specs.declared.opening.OpenRefused.{OpenRefused}
use Rattle.mt_service.specs.declared.opening.OpenRefused.TheVariants as refused
use Rattle.mt_service.specs.Opening.{IsOpening}
use Rattle.mt_service.specs.Records.{StandFor, IsKept}
use Rattle.mt_service.specs.Texts.{open_text}
use Rattle.mt_server.specs.Desks.{IfLoaded}
use Rattle.mint.specs.declared.status.Status.TheVariants.{BadStore}
use Rattle.mint.specs.declared.words.Task.{Task}
use Rattle.mint.specs.declared.words.Task.TheVariants as task
use Rattle.mint.specs.Serving.{AskToServe, IsTurnedAway}
use Rattle.mint.specs.Store.{AreLeft}
use Rattle.mint.specs.Words.{IsCommand}
use Rattle.mint.proofs.ChainLemmas.{Records, loads_told, loads_left}
use Rattle.mint.proofs.DoingLemmas.{refused_for}

-- words that ask to serve say one number of workers
pub one_count : (words : List (List ℕ)) (b d : Bounds) (n m c k : ℕ) → AskToServe words b n c → AskToServe words d m k → m ≡ n
one_count words b d n m c k (port, is) (door, are) =
    let whole = is.words_are in
    let other = are.words_are in
    let behind = is.task.1 in
    let beside = are.task.1 in
    let numbers = is.task.2.6 in
    let others = are.task.2.6 in
    let same : decimal m ≡ decimal n = cc in
    decimal_injective m n (omega (arith, are.task.2.3)) (omega (arith, is.task.2.3)) same

-- what words ask for that are a command to serve
pub serving_asked : (words : List (List ℕ)) (b : Bounds) (t : Task) (port n c : ℕ) → IsCommand words (record { bounds = b; task = t }) → t ≡ task.Serve port n c
    → IsCommand words (record { bounds = b; task = task.Serve port n c }) × (0 < n) × (n ≤ 16) × ((d : Bounds) (m k : ℕ) → AskToServe words d m k → m ≡ n)
serving_asked words b t port n c is e =
    let asks : IsCommand words (record { bounds = b; task = task.Serve port n c }) = subst (λ (x : Task). IsCommand words (record { bounds = b; task = x })) e is in
    let numbers = asks.task.2 in (
      asks,
      omega (arith, numbers.2),
      omega (arith, numbers.3),
      λ d m k ask. one_count words b d n m c k (port, asks) ask,
    )

pub refusal_away : (words : List (List ℕ)) (b : Bounds) (n c : ℕ) (x y : Records) (r : OpenRefused) → AskToServe words b n c
    → IfLoaded x y (λ records. IsOpening b records (Err r)) → r ≢ refused.KeeperFault → r ≢ refused.Memory → IsTurnedAway words x y BadStore (open_text r)
refusal_away words b n c x y r ask (records, l, o) k m = inr (
  b,
  n,
  c,
  ask,
  r,
  record { records = records; told = loads_told x y records l; refused = refused_for b records r o k m; left = loads_left x y records l },
  refl,
  refl,
)

pub refusal_left : (b : Bounds) (x y : Records) (r : OpenRefused) → IfLoaded x y (λ records. IsOpening b records (Err r)) → AreLeft x y
refusal_left b x y r (records, l, o) = loads_left x y records l

-- where a keeper tells its records behind the load, they were the same before it
pub loaded_kept : (b : Bounds) (x y : Records) (E : List Event) → y ≢ None → IfLoaded x y (λ records. StandFor b records E) → IsKept b x E
loaded_kept b None y E some l = tt
loaded_kept b (Some a) None E some l = absurd (some refl)
loaded_kept b (Some a) (Some c) E some (records, l, stand) = subst (λ (r : List (List ℕ)). StandFor b r E) l.1 stand
