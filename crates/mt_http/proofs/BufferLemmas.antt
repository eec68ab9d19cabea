-- Bytes that move from a source to a buffer, read after read.
use Rattle.std.proofs.Common.{◌≡◌, ℕ, ◌+◌, ◌-◌, ◌≤◌, List, ◌++◌, length, take, drop, refl, sym, ◌∙◌, ap, arith, append_assoc, length-take, length-drop, Ok, Option, Some, None}
use Rattle.std.proofs.lemmas.List.{append-nil, drop_at, drop_all, drop-take}
use Rattle.std.proofs.lemmas.List.Edits.{take-paste}
use Rattle.std.proofs.Math.Seq.{take-add}
use Rattle.std.specs.List.{copy_within}
use Rattle.mt_io.specs.declared.Failed.{Failed}
use Rattle.mt_io.specs.Streams.{Takes}
use Rattle.mt_io.specs.Told.{Keeps, NoneLeft}
use Rattle.mt_http.specs.Awaiting.{IsRead}
use Rattle.mt_http.specs.Buffers.{Grows, Moves}

pub keeps_none : (a : List ℕ) (l : Option (List ℕ)) → Keeps a l a l
keeps_none a None = tt
keeps_none a (Some left) = refl

pub keeps_again : (a b c : List ℕ) (l m n : Option (List ℕ)) → Keeps a l b m → Keeps b m c n → Keeps a l c n
keeps_again a b c None None None h k = tt
keeps_again a b c None None (Some z) h k = k
keeps_again a b c None (Some y) n h k = absurd h
keeps_again a b c (Some x) None None h k = tt
keeps_again a b c (Some x) None (Some z) h k = absurd k
keeps_again a b c (Some x) (Some y) None h k = tt
keeps_again a b c (Some x) (Some y) (Some z) h k = h ∙ k

pub grows_none : (a : List ℕ) → Grows a a
grows_none a = sym (ap (λ (x : List ℕ). a ++ x) (drop_all (length a) a (omega arith)) ∙ append-nil a)

pub grows_again : (a b c : List ℕ) → Grows a b → Grows b c → Grows a c
grows_again a b c h k =
    let whole : c ≡ a ++ (drop (length a) b ++ drop (length b) c) =
    k ∙ ap (λ (x : List ℕ). x ++ drop (length b) c) h ∙ append_assoc a (drop (length a) b) (drop (length b) c) in
    whole ∙ ap (λ (x : List ℕ). a ++ x) (sym (ap (drop (length a)) whole ∙ drop_at a (drop (length a) b ++ drop (length b) c) (length a) refl))

pub moves_none : (a : List ℕ) (l : Option (List ℕ)) → Moves a l a l
moves_none a l = record { grows = grows_none a; keeps = keeps_none a l }

pub moves_again : (a : List ℕ) (l : Option (List ℕ)) (b : List ℕ) (m : Option (List ℕ)) (c : List ℕ) (n : Option (List ℕ))
    → Moves a l b m → Moves b m c n → Moves a l c n
moves_again a l b m c n h k = record {
  grows = grows_again a b c h.grows k.grows;
  keeps = keeps_again a b c l m n h.keeps k.keeps;
}

-- held bytes slid to the beginning
pub slid : (items : List ℕ) (spent len : ℕ) → spent ≤ len → len ≤ length items
    → take (len - spent) (copy_within items spent len 0) ≡ drop spent (take len items)
slid items spent len h k =
    let zero : 0 + (len - spent) ≡ len - spent = omega arith in
    let all : spent + (len - spent) ≡ len = omega arith in
    ap (λ (n : ℕ). take n (copy_within items spent len 0)) (sym zero)
    ∙ take-paste items 0 (drop spent items) (len - spent) (omega arith) (omega (arith, length-drop spent items))
    ∙ sym (drop-take spent (len - spent) items)
    ∙ ap (λ (n : ℕ). drop spent (take n items)) all

keeps_read : (a b : List ℕ) (n : ℕ) (bytes : List ℕ) (before after : Option (List ℕ)) → b ≡ a ++ take n bytes
    → Takes {E = Failed} before after (Ok n) bytes → Keeps a before b after
keeps_read a b n bytes None None e h = tt
keeps_read a b n bytes None (Some y) e h = h
keeps_read a b n bytes (Some x) None e h = tt
keeps_read a b n bytes (Some x) (Some y) e h =
    ap (λ (z : List ℕ). a ++ z) h.prefix ∙ sym (append_assoc a (take n bytes) y) ∙ ap (λ (z : List ℕ). z ++ y) (sym e)

none_read : (n : ℕ) (bytes : List ℕ) (before after : Option (List ℕ)) → Takes {E = Failed} before after (Ok n) bytes → n ≡ 0 → NoneLeft after
none_read n bytes None None h z = tt
none_read n bytes None (Some y) h z = absurd h
none_read n bytes (Some x) None h z = tt
none_read n bytes (Some x) (Some y) h z =
    sym (h.prefix ∙ ap (λ (k : ℕ). take k bytes ++ y) z) ∙ h.none_left z

pub read_is : (items new : List ℕ) (len n : ℕ) (before after : Option (List ℕ)) → take len new ≡ take len items → len + n ≤ length new
    → len ≤ length items → Takes {E = Failed} before after (Ok n) (drop len new) → IsRead {E = Failed} (take len items) before (Ok n) (take (len + n) new) after
read_is items new len n before after prefix fits within takes =
    let whole : take (len + n) new ≡ take len items ++ take n (drop len new) =
    take-add len n new ∙ ap (λ (x : List ℕ). x ++ take n (drop len new)) prefix in
    let tail : drop (length (take len items)) (take (len + n) new) ≡ take n (drop len new) =
    ap (drop (length (take len items))) whole ∙ drop_at (take len items) (take n (drop len new)) (length (take len items)) refl in
    record {
      moves = record {
        grows = whole ∙ ap (λ (x : List ℕ). take len items ++ x) (sym tail);
        keeps = keeps_read (take len items) (take (len + n) new) n (drop len new) before after whole takes;
      };
      count = omega (arith, length-take (len + n) new, length-take len items);
      none_left = none_read n (drop len new) before after takes;
      kept = tt;
    }
