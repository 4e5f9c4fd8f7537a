-- Lines that are put one after another.
use Rattle.std.specs.Prelude.{Err}
use Rattle.std.proofs.Common.{◌≡◌, ◌≤◌, ◌<◌, ℕ, ◌+◌, List, [], ◌∷◌, ◌++◌, length, drop, get_or, add-one, refl, sym, ap, ◌∙◌, append_assoc, arith, subst}
use Rattle.std.proofs.Math.Seq.{drop-cons}
use Rattle.std.specs.declared.alloc.Global.{Global}
use Rattle.std.specs.declared.vec.Vec.{Vec}
use Rattle.std.proofs.lemmas.List.{append-nil}
use Rattle.spf_edge.specs.Bytes.{Adds, AddsPrefix}
use Rattle.spf_edge.specs.Puts.{SinkState, taken_whole, put_of, HasPut}
use Rattle.spf_edge.specs.declared.sink.PutError.{PutError}
use Rattle.spf_edge.proofs.Taking.{adds_none, puts_none}
use Rattle.spf_edge_pieces.specs.Pieces.{AreTaken, AreTakenInPart}
use Rattle.spf_edge_pieces.proofs.Parts.{taken-more, broken-put}
use Rattle.spf_cli_answers.specs.Answering.{lines_of}

-- of these lines those before the rest were put
pub record AreLinesPutUpTo (lines rest : List (List ℕ)) (before now : SinkState) : Type 0 where
  pub front : List (List ℕ)
  pub split : lines ≡ front ++ rest
  pub taken : AreTaken front before now
  pub later : before.faults ≤ now.faults

pub lines-none : (lines : List (List ℕ)) (state : SinkState) → AreLinesPutUpTo lines lines state state
lines-none lines state = record {
  front = [];
  split = refl;
  taken = record { took = adds_none state.taken state.taken refl; put = puts_none state.puts state.puts refl };
  later = omega arith;
}

-- the lines from one on
pub from-line : (lines : List (Vec ℕ Global)) (i : ℕ) (m : Vec ℕ Global) → i < length lines → m ≡ get_or lines i m → lines_of (drop i lines) ≡ m.items ∷ lines_of (drop (i + 1) lines)
from-line lines i m l e =
    ap lines_of (drop-cons lines i m l) ∙ (λ j. (sym e j).items ∷ lines_of (drop (sym (add-one i) j) lines))

-- one more line
pub lines-more : (lines rest : List (List ℕ)) (line : List ℕ) (others : List (List ℕ)) (before between now : SinkState) → AreLinesPutUpTo lines rest before between → rest ≡ line ∷ others
    → Adds between.taken now.taken line → HasPut between.puts now.puts (taken_whole line ∷ []) → between.faults ≤ now.faults → AreLinesPutUpTo lines others before now
lines-more lines rest line others before between now p e took put l = record {
  front = p.front ++ line ∷ [];
  split = p.split ∙ ap (λ ls. p.front ++ ls) e ∙ sym (append_assoc p.front (line ∷ []) others);
  taken = taken-more p.front line before between now p.taken took put;
  later = (let a = p.later in omega (arith, a, l));
}

-- a put of a line failed
pub lines-broken : (lines rest : List (List ℕ)) (line : List ℕ) (others : List (List ℕ)) (before between now : SinkState) (error : PutError) → AreLinesPutUpTo lines rest before between → rest ≡ line ∷ others
    → AddsPrefix between.taken now.taken line → HasPut between.puts now.puts (put_of line (Err error)) → AreTakenInPart lines before now
lines-broken lines rest line others before between now error p e took put =
    subst (λ ls. AreTakenInPart ls before now) (sym (p.split ∙ ap (λ ls. p.front ++ ls) e)) (broken-put p.front line others before between now error p.taken took put)

-- no line is left
pub lines-all : (lines : List (List ℕ)) (before now : SinkState) → AreLinesPutUpTo lines [] before now → AreTaken lines before now
lines-all lines before now p = subst (λ ls. AreTaken ls before now) (sym (p.split ∙ append-nil p.front)) p.taken
