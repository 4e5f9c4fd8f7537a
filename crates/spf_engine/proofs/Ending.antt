-- How far a run has got, and how much it has counted.
use Rattle.std.proofs.Common.{◌≡◌, ℕ, suc, ◌+◌, ◌-◌, ◌*◌, ◌<◌, ◌≤◌, Bool, true, false, length, refl, sym, ap, ◌∙◌, subst, arith}
use Rattle.std.specs.Prelude.{◌^◌, Some}
use Rattle.spf_ast.specs.Syntax.{Block, end, on_line, Program}
use Rattle.spf_ast.specs.Construct.{Construct, is_construct, constructs_in}
use Rattle.spf_ast.specs.Pieces.{rest_from, from_construct, construct_first, statement_count}
use Rattle.spf_exec.specs.Pieces.{RunState, ahead}
use Rattle.spf_guess_statistics.specs.declared.stats.Stats.{Stats}
use Rattle.spf_guess_statistics.specs.Statistics.{none, plus}
use Rattle.spf_engine_construct.specs.Guesses.{AreAtMost}
use Rattle.spf_engine.specs.Runs.{CountsAreBounded}
use Rattle.spf_engine_laws.proofs.Fronts.{front-constructs}
use Rattle.spf_engine_laws.proofs.Constructs.{stands-before, rest-next, counts-first}

-- ---- how far a run has got

front-counts : (b : Block) → statement_count (from_construct b) ≤ statement_count b
front-counts end = omega arith
front-counts (on_line line first rest) = go (is_construct first) refl (front-counts rest)
  where
    go : (t : Bool) → is_construct first ≡ t → statement_count (from_construct rest) ≤ statement_count rest → statement_count (from_construct (on_line line first rest)) ≤ statement_count (on_line line first rest)
    go true e h = rw e (omega arith)
    go false e h = rw e (omega (arith, h))

pub advance-counts : (p : Program) (before after : RunState) → ahead p after ≡ from_construct (ahead p before) → statement_count (ahead p after) ≤ statement_count (ahead p before)
advance-counts p before after e = let h = front-counts (ahead p before) in let same = ap statement_count e in omega (arith, h, same)

-- a run that went past the construct that stood next
pub record WentPast (p : Program) (s last : RunState) : Type 0 where
  pub statements : statement_count (ahead p last) < statement_count (ahead p s)
  pub constructs : length (constructs_in (ahead p s)) ≡ suc (length (constructs_in (ahead p last)))

pub goes-past : (p : Program) (s last : RunState) → (c : Construct) → construct_first (ahead p s) ≡ Some c → last.place ≡ s.place + 1 → WentPast p s last
goes-past p s last c e place =
    let b = stands-before (ahead p s) c e in
    let rest : ahead p last ≡ b.rest = ap (λ n. rest_from n p.main) place ∙ rest-next s.place p.main b.line b.statement b.rest b.is in
    let left = ap statement_count rest in
    let all = ap statement_count b.is in
    record {
      statements = omega (arith, left, all);
      constructs = ap (λ (x : Block). length (constructs_in x)) b.is ∙ ap length (counts-first b.line b.statement b.rest c b.construct) ∙ ap (λ (x : Block). suc (length (constructs_in x))) (sym rest);
    }

-- ---- how much was counted

pub few-none : (most : ℕ) → AreAtMost none most
few-none most = record { blocks = omega arith; hits = omega arith; misses = omega arith; blind = omega arith }

pub few-advanced : (p : Program) (before after : RunState) (counted : Stats) → ahead p after ≡ from_construct (ahead p before) → CountsAreBounded p before counted → CountsAreBounded p after counted
few-advanced p before after counted e f =
    subst (λ n. AreAtMost counted (4096 * (length (constructs_in p.main) - n))) (sym (ap (λ (x : Block). length (constructs_in x)) e ∙ ap length (front-constructs (ahead p before)))) f

-- within a step
pub few-within : (p : Program) (s : RunState) (counted more : Stats) → length (constructs_in p.main) < 2 ^ 32 → CountsAreBounded p s counted → AreAtMost more 4096 → AreAtMost (plus counted more) (2 ^ 45)
few-within p s counted more total f m =
    let b = f.blocks in let h = f.hits in let w = f.misses in let n = f.blind in
    let mb = m.blocks in let mh = m.hits in let mw = m.misses in let mn = m.blind in
    record {
      blocks = omega (arith, total, b, mb);
      hits = omega (arith, total, h, mh);
      misses = omega (arith, total, w, mw);
      blind = omega (arith, total, n, mn);
    }

pub few-past : (p : Program) (s last : RunState) (counted more : Stats) → s.passed + length (constructs_in (ahead p s)) ≡ length (constructs_in p.main) → WentPast p s last → CountsAreBounded p s counted → AreAtMost more 4096 → CountsAreBounded p last (plus counted more)
few-past p s last counted more count past f m =
    let one = past.constructs in
    let b = f.blocks in let h = f.hits in let w = f.misses in let n = f.blind in
    let mb = m.blocks in let mh = m.hits in let mw = m.misses in let mn = m.blind in
    record {
      blocks = omega (arith, count, one, b, mb);
      hits = omega (arith, count, one, h, mh);
      misses = omega (arith, count, one, w, mw);
      blind = omega (arith, count, one, n, mn);
    }
