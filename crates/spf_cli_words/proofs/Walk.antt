-- Walks of `clap` over words.
use Rattle.std.proofs.Common.{◌≡◌, ◌==◌, ℕ, Bool, true, false, refl, sym, ap, ◌∙◌, append-nil, append_assoc, subst, ◌&&◌, List, [], ◌∷◌, ◌++◌, Some, None, arith}
use Rattle.std.specs.Prelude.{bytes_eq, fold}
use Rattle.std.specs.List.{list_all}
use Rattle.clap.specs.Lexer.{long_of, short_of}
use Rattle.clap.specs.Words.{Row, Rule, Shape, Text}
use Rattle.clap.specs.Walk.{Held, Names, Walk, after_step, finished, nothing_held, plain_word, subcommand_met, walk_from, walked}
use Rattle.clap.specs.Takes.{default_passes, is_valid, level_passes, settle_passes, step_passes, turn_passes, walk_passes}
use Rattle.spf_cli_words.specs.Command.{IsFileName}

-- ---- words that are no flags

differs : (b : ℕ) → (b ≡ 45 → ⊥) → (b == 45) ≡ false
differs b h = grind (arith, h)

-- `clap` takes a word for no flag: it is neither `--`, nor `--name`, nor `-n`
pub record IsPlain (word : Text) : Type 0 where
  pub ends : bytes_eq word (45 ∷ 45 ∷ []) ≡ false
  pub long : long_of word ≡ None
  pub short : short_of word ≡ None

plain_of : (b : ℕ) (bytes : Text) → (b == 45) ≡ false → IsPlain (b ∷ bytes)
plain_of b bytes e = record { ends = rw e refl; long = rw e refl; short = rw e refl }

pub plain : (word : Text) → IsFileName word → IsPlain word
plain [] h = absurd h
plain (b ∷ bytes) h = plain_of b bytes (differs b h)

-- ---- walks that met a subcommand

-- they keep the words after it
pub kept : (rules : List Rule) (names : Names) (w : Walk) (subcommand : Text) (before words : List Text)
    → fold (walked rules names) (record w { stopped = Some (subcommand, before) }) words ≡ record w { stopped = Some (subcommand, before ++ words) }
unfolding walked
kept rules names w subcommand before [] = ap (λ (ws : List Text). record w { stopped = Some (subcommand, ws) }) (sym (append-nil before))
kept rules names w subcommand before (word ∷ words) =
    kept rules names w subcommand (before ++ word ∷ []) words
    ∙ ap (λ (ws : List Text). record w { stopped = Some (subcommand, ws) }) (append_assoc before (word ∷ []) words)

pub kept-passes : (shape : Shape) (names : Names) (w : Walk) (subcommand : Text) (before words : List Text)
    → walk_passes shape names (record w { stopped = Some (subcommand, before) }) words ≡ true
unfolding walked walk_passes
kept-passes shape names w subcommand before [] = refl
kept-passes shape names w subcommand before (word ∷ words) = kept-passes shape names w subcommand (before ++ word ∷ []) words

-- ---- walks step by step

-- what is checked at the end of a walk
abbrev pub end_passes : Shape → Held → Bool
end_passes s end =
    settle_passes s.rules s.args_override_self end && (list_all default_passes s.rules && is_valid s (finished s.rules end) false)

-- a walk over these words, from where it stands, passes, and the matches at its end are such
pub record Gives (s : Shape) (w : Walk) (words : List Text) (Has : List Row → Type 0) : Type 0 where
  pub walks : walk_passes s [] w words ≡ true
  pub ends : end_passes s (fold (walked s.rules []) w words).held ≡ true
  pub has : Has (finished s.rules (fold (walked s.rules []) w words).held)

-- a walk over words that are known, which computes
pub over : {s : Shape} {w : Walk} {words : List Text} {Has : List Row → Type 0} → walk_passes s [] w words ≡ true
    → end_passes s (fold (walked s.rules []) w words).held ≡ true → Has (finished s.rules (fold (walked s.rules []) w words).held) → Gives s w words Has
over t e h = record { walks = t; ends = e; has = h }

-- the same after one more word
pub on : {s : Shape} {w : Walk} {word : Text} {words : List Text} {Has : List Row → Type 0}
    → turn_passes s [] w word ≡ true → Gives s (walked s.rules [] w word) words Has → Gives s w (word ∷ words) Has
unfolding walk_passes
on t g = record { walks = rw (t, g.walks) refl; ends = g.ends; has = g.has }

-- where a walk stands after a word that is no flag
abbrev pub past : Shape → Walk → Text → Walk
past s w word = after_step s.rules word w (plain_word s.rules w.waiting word w.held).0 (plain_word s.rules w.waiting word w.held).1

past-is : (s : Shape) (w : Walk) (word : Text) → w.stopped ≡ None → w.is_trailing ≡ false → subcommand_met [] w.waiting word ≡ None → IsPlain word
    → walked s.rules [] w word ≡ past s w word
unfolding walked
past-is s w word n t m p = rw (n, t, m, p.ends, p.long, p.short) refl

past-passes : (s : Shape) (w : Walk) (word : Text) → w.stopped ≡ None → w.is_trailing ≡ false → subcommand_met [] w.waiting word ≡ None → IsPlain word
    → step_passes s w.position (plain_word s.rules w.waiting word w.held).0 (plain_word s.rules w.waiting word w.held).1 ≡ true → turn_passes s [] w word ≡ true
past-passes s w word n t m p e = rw (n, t, m, p.ends, p.long, p.short, e) refl

-- the same after one more word that is no flag
pub by : {s : Shape} {w : Walk} {word : Text} {words : List Text} {Has : List Row → Type 0} → IsPlain word
    → w.stopped ≡ None → w.is_trailing ≡ false → subcommand_met [] w.waiting word ≡ None
    → step_passes s w.position (plain_word s.rules w.waiting word w.held).0 (plain_word s.rules w.waiting word w.held).1 ≡ true
    → Gives s (past s w word) words Has → Gives s w (word ∷ words) Has
by {s} {w} {word} {words} {Has} p n t m e g =
    on (past-passes s w word n t m p e) (subst (λ (v : Walk). Gives s v words Has) (sym (past-is s w word n t m p)) g)

-- a whole walk
pub whole : (s : Shape) (words : List Text) (Has : List Row → Type 0) → Gives s (walk_from nothing_held) words Has
    → level_passes s [] nothing_held words false ≡ true
whole s words Has g = rw (g.walks, g.ends) refl
