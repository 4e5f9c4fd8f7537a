-- Logs of several blocks.
use Rattle.std.proofs.Common.{◌≡◌, ◌≢◌, ℕ, zero, suc, ◌<◌, Bool, true, false, List, [], ◌∷◌, ◌++◌, length, length-append, ◌+◌, map, get_or, refl, sym, ap, ◌∙◌, subst, arith}
use Rattle.std.specs.Prelude.{◌==◌, if◌then◌else◌, slice_set}
use Rattle.std.specs.Global.{Vec}
use Rattle.std.proofs.lemmas.Bool.Decides.{Decides-eqb}
use Rattle.spf_ast_lemmas.proofs.Members.{cases}
use Rattle.spf_ast.specs.Event.{Event}
use Rattle.spf_speculation.proofs.Within.{alike}
use Rattle.spf_speculation.proofs.Trees.{chose-true, chose-false}
use Rattle.spf_replay_log.specs.declared.log.Event as logged
use Rattle.spf_replay.specs.Reading.{event_of}
use Rattle.spf_replay.specs.SeenSteps.{log_at}

log-set : (logs : List (Vec logged.Event)) (b : ℕ) (x : Vec logged.Event) → b < length logs → log_at (slice_set logs b x) b ≡ map event_of x.items
log-set [] b x h = absurd (omega (arith, h))
log-set (l ∷ logs) zero x h = refl
log-set (l ∷ logs) (suc b) x h = log-set logs b x (omega (arith, h))

log-unset : (logs : List (Vec logged.Event)) (b n : ℕ) (x : Vec logged.Event) → n ≢ b → log_at (slice_set logs b x) n ≡ log_at logs n
log-unset [] b n x ne = refl
log-unset (l ∷ logs) zero zero x ne = absurd (ne refl)
log-unset (l ∷ logs) zero (suc n) x ne = refl
log-unset (l ∷ logs) (suc b) zero x ne = refl
log-unset (l ∷ logs) (suc b) (suc n) x ne = log-unset logs b n x (λ e. ne (ap suc e))

pub log-added : (logs : List (Vec logged.Event)) (b n : ℕ) (x : Vec logged.Event) (event : Event) → b < length logs → map event_of x.items ≡ log_at logs b ++ event ∷ []
    → log_at (slice_set logs b x) n ≡ if b == n then log_at logs n ++ event ∷ [] else log_at logs n
log-added logs b n x event low is = cases (alike b n)
    (λ same. subst (λ k. log_at (slice_set logs b x) k ≡ log_at logs k ++ event ∷ []) same (log-set logs b x low ∙ is) ∙ sym (chose-true (b == n) _ _ ((Decides-eqb b n).1 same)))
    (λ ne. log-unset logs b n x (λ e. ne (sym e)) ∙ sym (chose-false (b == n) _ _ (not-true (b == n) (λ t. ne ((Decides-eqb b n).0 t)))))
  where
    not-true : (b : Bool) → (b ≡ true → ⊥) → b ≡ false
    not-true true h = absurd (h refl)
    not-true false h = refl

pub log-index : (logs : List (Vec logged.Event)) (b : ℕ) (d : Vec logged.Event) → b < length logs → log_at logs b ≡ map event_of (get_or logs b d).items
log-index [] b d h = absurd (omega (arith, h))
log-index (l ∷ logs) zero d h = refl
log-index (l ∷ logs) (suc b) d h = log-index logs b d (omega (arith, h))

pub one-more : (x event : List logged.Event) (one : logged.Event) → map event_of (x ++ one ∷ []) ≡ map event_of x ++ event_of one ∷ []
one-more [] event one = refl
one-more (y ∷ x) event one = ap (λ l. event_of y ∷ l) (one-more x event one)

pub empty-more : (logs : List (Vec logged.Event)) (x : Vec logged.Event) → x.items ≡ [] → ((n : ℕ) → log_at logs n ≡ []) → (n : ℕ) → log_at (logs ++ x ∷ []) n ≡ []
empty-more [] x none all zero = ap (map event_of) none
empty-more [] x none all (suc n) = refl
empty-more (l ∷ logs) x none all zero = all zero
empty-more (l ∷ logs) x none all (suc n) = empty-more logs x none (λ k. all (suc k)) n

pub count-more : (logs more : List (Vec logged.Event)) (x : Vec logged.Event) (i : ℕ) → more ≡ logs ++ x ∷ [] → length logs ≡ i → length more ≡ i + 1
count-more logs more x i h size = ap length h ∙ length-append logs (x ∷ []) ∙ ap (λ k. k + 1) size
