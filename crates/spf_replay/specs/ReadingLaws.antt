-- A memory that is read from a log keeps the laws of memories.
use Rattle.std.specs.Prelude.{◌≡◌, ℕ, Bool, true, false, MatchBool, List, [], ◌∷◌, ◌++◌, Option, Some, None, MatchOption, ℤ, refl}
use Rattle.std.proofs.Common.{ap, ◌∙◌, subst}
use Rattle.spf_ast.specs.Event.{Event, Load, Store, Turn}
use Rattle.spf_region.specs.declared.span.Span.{Span}
use Rattle.spf_region.specs.Cells.{in_spans}
use Rattle.spf_exec_memory.specs.MemoryLaws.{Laws}
use Rattle.spf_replay.specs.Reading.{next_load, next_store, next_turn, Reads, ReadsOn, InLog, left_of, LeadsInLog}

map-bool : (b : Bool) (P Q P' Q' : Type 0) → (P → P') → (Q → Q') → MatchBool b P Q → MatchBool b P' Q'
map-bool true P Q P' Q' f g h = f h
map-bool false P Q P' Q' f g h = g h

map-option : {A : Type 0} (o : Option A) (P P' : Type 0) (Q Q' : A → Type 0) → (P → P') → ((x : A) → Q x → Q' x) → MatchOption o P Q → MatchOption o P' Q'
map-option None P P' Q Q' f g h = f h
map-option (Some x) P P' Q Q' f g h = g x h

-- a log that fits no longer never fits again
unfit-on : (shared : ℕ → Bool) (m : List ℤ) (events : List Event) (b c : Option (List Event)) → b ≡ None → ReadsOn shared m events b c → c ≡ None
unfit-on shared m events b c none h = subst (λ x. ReadsOn shared m events x c) none h

joined-reads : (shared : ℕ → Bool) (m : List ℤ) (es fs : List Event) (left : List Event) (b c : Option (List Event))
    → Reads shared m es left b → ReadsOn shared m fs b c → Reads shared m (es ++ fs) left c
joined-reads shared m [] fs left b c h k = subst (λ x. ReadsOn shared m fs x c) h k
joined-reads shared m (Load cell word ∷ es) fs left b c h k =
    map-bool (shared cell) _ _ _ _
    (map-option (next_load cell left) _ _ _ _ (λ none. unfit-on shared m fs b c none k) (λ next r. (r.0, joined-reads shared m es fs next.1 b c r.1 k)))
    (λ r. (r.0, joined-reads shared m es fs left b c r.1 k)) h
joined-reads shared m (Store cell word ∷ es) fs left b c h k =
    map-option (next_store cell word left) _ _ _ _ (λ none. unfit-on shared m fs b c none k) (λ rest r. joined-reads shared m es fs rest b c r k) h
joined-reads shared m (Turn number ∷ es) fs left b c h k =
    map-option (next_turn left) _ _ _ _ (λ none. unfit-on shared m fs b c none k) (λ next r. (r.0, joined-reads shared m es fs next.1 b c r.1 k)) h

joined-on : (shared : ℕ → Bool) (m : List ℤ) (es fs : List Event) (a b c : Option (List Event))
    → ReadsOn shared m es a b → ReadsOn shared m fs b c → ReadsOn shared m (es ++ fs) a c
joined-on shared m es fs None b c h k = unfit-on shared m fs b c h k
joined-on shared m es fs (Some left) b c h k = joined-reads shared m es fs left b c h k

none-read : (shared : ℕ → Bool) (m : List ℤ) (a : Option (List Event)) → ReadsOn shared m [] a a
none-read shared m None = refl
none-read shared m (Some left) = refl

joined-log : (es fs : List Event) (a b c : InLog) → LeadsInLog es a b → LeadsInLog fs b c → LeadsInLog (es ++ fs) a c
joined-log es fs a b c p q = record {
  spans = q.spans ∙ p.spans;
  entry = q.entry ∙ p.entry;
  attempt = q.attempt ∙ p.attempt;
  log = q.log ∙ p.log;
  read = joined-on (in_spans a.spans) a.entry es fs (left_of a) (left_of b) (left_of c) p.read
      (subst (λ (x : List Span × List ℤ). ReadsOn (in_spans x.0) x.1 fs (left_of b) (left_of c)) (λ i. (p.spans i, p.entry i)) q.read);
}

pub log_laws : {S : Type 0} (at : S → InLog) → Laws {M = S} (λ es a b. LeadsInLog es (at a) (at b)) (λ s. Some (at s).attempt)
log_laws at = record {
  empty = λ m. record { spans = refl; entry = refl; attempt = refl; log = refl; read = none-read (in_spans (at m).spans) (at m).entry (left_of (at m)) };
  joined = λ es fs a b c p q. joined-log es fs (at a) (at b) (at c) p q;
  keeps_stop = λ es a b p. ap (λ n. Some n) p.attempt;
}
