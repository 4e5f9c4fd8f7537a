-- What was judged of a log, and what one more construct changes.
use Rattle.std.proofs.Common.{◌≡◌, ◌⊎◌, ℕ, suc, ◌+◌, ◌<◌, ◌≤◌, List, [], ◌∷◌, ◌++◌, length, take, Some, None, refl, sym, ap, ◌∙◌, subst, add-one, arith}
use Rattle.std.specs.Prelude.{slice_get}
use Rattle.std.specs.Global.{Vec}
use Rattle.std.proofs.lemmas.Option.{slice_get_past}
use Rattle.spf_ast_lemmas.proofs.Members.{cases}
use Rattle.spf_speculation_entry.specs.Entry.{Entry}
use Rattle.spf_speculation.specs.Steps.{Step}
use Rattle.spf_engine_laws.specs.Passed.{PassedConstruct}
use Rattle.spf_replay.specs.declared.verdict.Verdict.{Verdict}
use Rattle.spf_replay.specs.declared.verdict.Verdict.TheVariants.{Yes, No}
use Rattle.spf_replay_log.specs.declared.log.Step as logged
use Rattle.spf_replay.specs.Verdicts.{Expected, Fits, IsVerdict}
use Rattle.spf_replay_walk.specs.declared.judging.Judged.{Judged}
use Rattle.spf_replay_walk.specs.Judging.{seen_log, expected_of, expected_of_all, HasJudged, IsAfterRun}
use Rattle.spf_replay_walk.proofs.Sections.{still-right, now-wrong, still-wrong, right-whole, one-too-many, wrong-whole}

-- ---- as many are expected as were passed

as-many : (passed : List PassedConstruct) → length passed ≡ length (expected_of_all passed)
as-many [] = refl
as-many (x ∷ passed) = ap suc (as-many passed)

one-more : (passed : List PassedConstruct) (x : PassedConstruct) → expected_of_all passed ++ expected_of x ∷ [] ≡ expected_of_all (passed ++ x ∷ [])
one-more [] x = refl
one-more (y ∷ passed) x = ap (λ l. expected_of y ∷ l) (one-more passed x)

longer : (passed : List PassedConstruct) (x : PassedConstruct) → suc (length passed) ≡ length (passed ++ x ∷ [])
longer [] x = refl
longer (y ∷ passed) x = ap suc (longer passed x)

-- a verdict with one more
with-one : (passed : List PassedConstruct) (x : PassedConstruct) (log : List (List Step)) (v : Verdict) → IsVerdict (expected_of_all passed ++ expected_of x ∷ []) (take (suc (length (expected_of_all passed))) log) v
    → IsVerdict (expected_of_all (passed ++ x ∷ [])) (take (length (passed ++ x ∷ [])) log) v
with-one passed x log v h =
    subst (λ n. IsVerdict (expected_of_all (passed ++ x ∷ [])) (take n log) v) (ap suc (sym (as-many passed)) ∙ longer passed x)
    (subst (λ xs. IsVerdict xs (take (suc (length (expected_of_all passed))) log) v) (one-more passed x) h)

-- the verdict so far, of as many as are expected
so-far : (passed : List PassedConstruct) (log : List (List Step)) (v w : Verdict) → v ≡ w → IsVerdict (expected_of_all passed) (take (length passed) log) v → IsVerdict (expected_of_all passed) (take (length (expected_of_all passed)) log) w
so-far passed log v w is h =
    subst (λ n. IsVerdict (expected_of_all passed) (take n log) w) (as-many passed) (subst (λ u. IsVerdict (expected_of_all passed) (take (length passed) log) u) is h)

no-yes : (k : ℕ) (v : Verdict) → v ≡ No k → v ≡ Yes → ⊥
no-yes k v a b = cc

-- ---- one more construct

pub judged-wrong-before : (passed : List PassedConstruct) (x : PassedConstruct) (log : List (List Step)) (j : Judged) (k : ℕ) → j.verdict ≡ No k → HasJudged passed log j → HasJudged (passed ++ x ∷ []) log j
judged-wrong-before passed x log j k is h = record {
  verdict = subst (λ v. IsVerdict (expected_of_all (passed ++ x ∷ [])) (take (length (passed ++ x ∷ [])) log) v) (sym is)
      (with-one passed x log (No k) (still-wrong (expected_of_all passed) (expected_of x) log k (so-far passed log j.verdict (No k) is h.verdict)));
  next = λ yes. absurd (no-yes k j.verdict is yes);
}

-- where all before were right, the section that comes next is this one
next-is : (passed : List PassedConstruct) (log : List (List Step)) (j : Judged) → j.verdict ≡ Yes → HasJudged passed log j → j.next ≡ length (expected_of_all passed)
next-is passed log j is h = h.next is ∙ as-many passed

pub judged-right : (passed : List PassedConstruct) (x : PassedConstruct) (log : List (List Step)) (j k : Judged) → j.verdict ≡ Yes → HasJudged passed log j
    → Fits (Some (expected_of x)) (slice_get log j.next) → k.verdict ≡ Yes → k.next ≡ j.next + 1 → HasJudged (passed ++ x ∷ []) log k
judged-right passed x log j k is h fits right next = record {
  verdict = subst (λ v. IsVerdict (expected_of_all (passed ++ x ∷ [])) (take (length (passed ++ x ∷ [])) log) v) (sym right)
      (with-one passed x log Yes (still-right (expected_of_all passed) (expected_of x) log (so-far passed log j.verdict Yes is h.verdict)
      (subst (λ n. Fits (Some (expected_of x)) (slice_get log n)) (next-is passed log j is h) fits)));
  next = λ yes. next ∙ add-one j.next ∙ ap suc (h.next is) ∙ longer passed x;
}

pub judged-wrong : (passed : List PassedConstruct) (x : PassedConstruct) (log : List (List Step)) (j k : Judged) → j.verdict ≡ Yes → HasJudged passed log j
    → (Fits (Some (expected_of x)) (slice_get log j.next) → ⊥) → k.verdict ≡ No j.next → HasJudged (passed ++ x ∷ []) log k
judged-wrong passed x log j k is h wrong refused =
    let n = next-is passed log j is h in
    record {
      verdict = subst (λ v. IsVerdict (expected_of_all (passed ++ x ∷ [])) (take (length (passed ++ x ∷ [])) log) v) (sym (refused ∙ ap (λ m. No m) n))
          (with-one passed x log (No (length (expected_of_all passed))) (now-wrong (expected_of_all passed) (expected_of x) log (so-far passed log j.verdict Yes is h.verdict)
          (λ fits. wrong (subst (λ m. Fits (Some (expected_of x)) (slice_get log m)) (sym n) fits))));
      next = λ yes. absurd (no-yes j.next k.verdict refused yes);
    }

-- ---- the end

pub ends-wrong : (passed : List PassedConstruct) (log : List (List Step)) (j : Judged) (k : ℕ) → j.verdict ≡ No k → HasJudged passed log j → IsVerdict (expected_of_all passed) log j.verdict
ends-wrong passed log j k is h = subst (λ v. IsVerdict (expected_of_all passed) log v) (sym is) (wrong-whole (expected_of_all passed) log k (so-far passed log j.verdict (No k) is h.verdict))

pub ends-right : (passed : List PassedConstruct) (log : List (List Step)) (j : Judged) → j.verdict ≡ Yes → HasJudged passed log j → length log ≤ j.next → IsVerdict (expected_of_all passed) log Yes
ends-right passed log j is h l =
    right-whole (expected_of_all passed) log (subst (λ n. length log ≤ n) (next-is passed log j is h) l) (so-far passed log j.verdict Yes is h.verdict)

pub ends-early : (passed : List PassedConstruct) (log : List (List Step)) (j : Judged) → j.verdict ≡ Yes → HasJudged passed log j → j.next < length log → IsVerdict (expected_of_all passed) log (No j.next)
ends-early passed log j is h l =
    let n = next-is passed log j is h in
    subst (λ m. IsVerdict (expected_of_all passed) log (No m)) (sym n)
    (one-too-many (expected_of_all passed) log (subst (λ m. m < length log) n l) (so-far passed log j.verdict Yes is h.verdict))

-- ---- sections of a log

pub as-long : (log : List (Vec logged.Step)) → length (seen_log log) ≡ length log
as-long [] = refl
as-long (x ∷ log) = ap suc (as-long log)

-- no section is missing that fits
pub not-missing : (log : List (List Step)) (n : ℕ) (x : Expected) → length log ≤ n → Fits (Some x) (slice_get log n) → ⊥
not-missing log n x past fits = subst (Fits (Some x)) (slice_get_past log n past) fits

-- ---- the verdict on a section

-- it is one of the construct's speculative runs
pub after-right : (passed : List PassedConstruct) (x : PassedConstruct) (log : List (List Step)) (j k : Judged) (e : Entry) (next : ℕ) → j.verdict ≡ Yes → HasJudged passed log j → x.entry ≡ e
    → IsAfterRun log j.next e x.guess (Some next) → k.verdict ≡ Yes → k.next ≡ next → HasJudged (passed ++ x ∷ []) log k
after-right passed x log j k e next is h same after right then =
    judged-right passed x log j k is h (subst (λ f. Fits (Some (record { entry = f; guess = x.guess })) (slice_get log j.next)) (sym same) after.1) right (then ∙ after.0)

-- it is none
pub after-wrong : (passed : List PassedConstruct) (x : PassedConstruct) (log : List (List Step)) (j k : Judged) (e : Entry) → j.verdict ≡ Yes → HasJudged passed log j → x.entry ≡ e
    → IsAfterRun log j.next e x.guess None → k.verdict ≡ No j.next → HasJudged (passed ++ x ∷ []) log k
after-wrong passed x log j k e is h same after refused =
    judged-wrong passed x log j k is h (λ fits. after (subst (λ f. Fits (Some (record { entry = f; guess = x.guess })) (slice_get log j.next)) same fits)) refused

-- no further one is expected
pub ends-so : (passed : List PassedConstruct) (log : List (List Step)) (j : Judged) (size : ℕ) (v : Verdict) → size ≡ length log → j.verdict ≡ Yes → HasJudged passed log j
    → (size ≤ j.next → v ≡ Yes) → (j.next < size → v ≡ No j.next) → IsVerdict (expected_of_all passed) log v
ends-so passed log j size v same is h right early = cases (order size j.next)
    (λ few. subst (λ u. IsVerdict (expected_of_all passed) log u) (sym (right few)) (ends-right passed log j is h (subst (λ n. n ≤ j.next) same few)))
    (λ many. subst (λ u. IsVerdict (expected_of_all passed) log u) (sym (early many)) (ends-early passed log j is h (subst (λ n. j.next < n) same many)))
  where
    order : (a b : ℕ) → (a ≤ b) ⊎ (b < a)
    order a b = grind arith
