-- A walk over the guesses of a row's parts, as far as it came.
use Rattle.std.proofs.Common.{◌≡◌, ℕ, ◌+◌, ◌<◌, ◌≤◌, List, length, get_or, drop, map, sym, subst}
use Rattle.std.proofs.lemmas.List.{drop_all}
use Rattle.spf_region.specs.declared.bound.Bound.{Bound}
use Rattle.spf_ast.specs.declared.syntax.Predict.{Predict}
use Rattle.spf_ast.specs.View.{predictor}
use Rattle.spf_effects_findings.specs.Extends.{Extends, Lists}
use Rattle.spf_effects_findings.specs.Forms.{Setting}
use Rattle.spf_effects_findings.specs.Parts.{guess_finds, guesses_find}
use Rattle.spf_effects_findings.proofs.Then.{extends_nothing, extends_then}
use Rattle.spf_effects_walk.proofs.Walks.{item_at}

-- what is found in the guesses from an index on gives what is found in all
pub record GuessesLead (g : Setting) (slots : List Bound) (all : List Predict) (old : Lists) (i : ℕ) (now : Lists) : Type 0 where
  pub finds : (new : Lists) → Extends (guesses_find g slots (map predictor (drop i all))) now new → Extends (guesses_find g slots (map predictor all)) old new

pub guesses_next : (g : Setting) (slots : List Bound) (all : List Predict) (old : Lists) (i : ℕ) (now new : Lists) (x : Predict) → i < length all → x ≡ get_or all i x → Extends (guess_finds g slots (predictor x)) now new → GuessesLead g slots all old i now → GuessesLead g slots all old (i + 1) new
guesses_next g slots all old i now new x h is f lead = record {
  finds = λ last n. lead.finds last
      (subst (λ l. Extends (guesses_find g slots (map predictor l)) now last) (sym (item_at all i x h is))
      (extends_then (guess_finds g slots (predictor x)) (guesses_find g slots (map predictor (drop (i + 1) all))) now new last f n));
}

pub guesses_end : (g : Setting) (slots : List Bound) (all : List Predict) (old : Lists) (i : ℕ) (now : Lists) → length all ≤ i → GuessesLead g slots all old i now → Extends (guesses_find g slots (map predictor all)) old now
guesses_end g slots all old i now h lead =
    lead.finds now (subst (λ l. Extends (guesses_find g slots (map predictor l)) now now) (sym (drop_all i all h)) (extends_nothing now))
