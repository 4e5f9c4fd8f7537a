-- Bytes that are put in pieces.
use Rattle.std.specs.Prelude.{Ok, Err}
use Rattle.std.proofs.Common.{◌≡◌, ◌≤◌, ◌<◌, ℕ, zero, suc, ◌+◌, ◌-◌, List, [], ◌∷◌, ◌++◌, length, map, take, drop, get_or, add-one, refl, sym, ap, ◌∙◌, append_assoc, arith, subst, min}
use Rattle.std.proofs.Math.Seq.{drop-cons}
use Rattle.std.specs.List.{concat}
use Rattle.std.proofs.lemmas.List.{append-nil, map-append, take-append-drop, length-append, length-take, length-drop}
use Rattle.std.proofs.lemmas.List.Folds.{concat-append}
use Rattle.spf_edge.specs.Bytes.{Adds, AddsPrefix}
use Rattle.spf_edge.specs.Puts.{SinkState, taken_whole, not_taken, put_of, HasPut, HasPutFirst}
use Rattle.spf_edge.specs.declared.sink.PutError.{PutError}
use Rattle.spf_edge.specs.declared.sink.PutError.TheVariants.{Failed, OutOfMemory}
use Rattle.spf_edge.proofs.Taking.{adds_both, adds_whole, adds_none, adds_empty_prefix, adds_prefix_of_both, adds_prefix_of_more, puts_both, puts_none}
use Rattle.spf_edge_pieces.specs.Pieces.{piece_size, ArePieces, AreCut, AreCutEach, AreTaken, AreTakenInPart, IsPutInPieces}

-- ---- pieces of bytes

-- a piece before others, or the last one
pieces-more : (size : ℕ) (piece : List ℕ) (more : List (List ℕ)) → 0 < length piece → length piece ≤ size → (0 < length (concat more) → length piece ≡ size) → 0 < size → ArePieces size more → ArePieces size (piece ∷ more)
pieces-more size piece [] some most full large are = (some, most)
pieces-more size piece (next ∷ []) some most full large are = (full (let a = length-append next [] in let b = are.0 in omega (arith, a, b)), are)
pieces-more size piece (next ∷ last ∷ more) some most full large are = (full (let a = length-append next (concat (last ∷ more)) in let b = are.0 in omega (arith, a, b, large)), are)

-- bytes are put in some pieces
cut-somehow : (size n : ℕ) (bytes : List ℕ) → 0 < size → length bytes ≤ n → (pieces : List (List ℕ)) × (concat pieces ≡ bytes) × ArePieces size pieces
cut-somehow size n [] large few = ([], refl, tt)
cut-somehow size zero (b ∷ bytes) large few = absurd (let f : suc (length bytes) ≤ 0 = few in omega (arith, f))
cut-somehow size (suc n) (b ∷ bytes) large few =
    let all = b ∷ bytes in
    let some : 0 < length all = omega arith in
    let t : length (take size all) ≡ min size (length all) = length-take size all in
    let d : length (drop size all) ≡ length all - size = length-drop size all in
    let more = cut-somehow size n (drop size all) large (grind (arith, d, few, large, some)) in (
      take size all ∷ more.0,
      ap (λ bs. take size all ++ bs) more.1 ∙ take-append-drop size all,
      pieces-more size (take size all) more.0 (grind (arith, t, large, some)) (grind (arith, t))
          (λ left. let e : length (concat more.0) ≡ length all - size = ap length more.1 ∙ d in grind (arith, t, e, left))
          large more.2,
    )

-- of these bytes those before the rest were put, in pieces that go on with those of the rest
pub record IsPutUpTo (bytes rest : List ℕ) (before now : SinkState) : Type 0 where
  pub front : List (List ℕ)
  pub split : bytes ≡ concat front ++ rest
  pub goes_on : (more : List (List ℕ)) → ArePieces piece_size more → concat more ≡ rest → ArePieces piece_size (front ++ more)
  pub taken : AreTaken front before now
  pub later : before.faults ≤ now.faults

-- nothing was put
pub put-none : (bytes : List ℕ) (state : SinkState) → IsPutUpTo bytes bytes state state
put-none bytes state = record {
  front = [];
  split = refl;
  goes_on = λ more are is. are;
  taken = record { took = adds_none state.taken state.taken refl; put = puts_none state.puts state.puts refl };
  later = omega arith;
}

concat-last : (front : List (List ℕ)) (piece : List ℕ) → concat (front ++ piece ∷ []) ≡ concat front ++ piece
concat-last front piece = concat-append front (piece ∷ []) ∙ ap (λ bytes. concat front ++ bytes) (append-nil piece)

-- one more piece on a sink
pub taken-more : (front : List (List ℕ)) (piece : List ℕ) (before between now : SinkState) → AreTaken front before between → Adds between.taken now.taken piece → HasPut between.puts now.puts (taken_whole piece ∷ []) → AreTaken (front ++ piece ∷ []) before now
taken-more front piece before between now t took put = record {
  took = subst (Adds before.taken now.taken) (sym (concat-last front piece)) (adds_both before.taken between.taken now.taken (concat front) piece t.took took);
  put = subst (HasPut before.puts now.puts) (sym (map-append taken_whole front (piece ∷ []))) (puts_both before.puts between.puts now.puts (map taken_whole front) (taken_whole piece ∷ []) t.put put);
}

-- pieces that were taken after others were taken with them
pub taken-both : (first second : List (List ℕ)) (before between now : SinkState) → AreTaken first before between → AreTaken second between now → AreTaken (first ++ second) before now
taken-both first second before between now one two = record {
  took = subst (Adds before.taken now.taken) (sym (concat-append first second)) (adds_both before.taken between.taken now.taken (concat first) (concat second) one.took two.took);
  put = subst (HasPut before.puts now.puts) (sym (map-append taken_whole first second)) (puts_both before.puts between.puts now.puts (map taken_whole first) (map taken_whole second) one.put two.put);
}

-- the first of some pieces, after others were taken
pub taken-part : (first second : List (List ℕ)) (before between now : SinkState) → AreTaken first before between → AreTakenInPart second between now → AreTakenInPart (first ++ second) before now
taken-part first second before between now one two = record {
  took = subst (AddsPrefix before.taken now.taken) (sym (concat-append first second)) (adds_prefix_of_both before.taken between.taken now.taken (concat first) (concat second) one.took two.took);
  put = record {
    whole = first ++ two.put.whole;
    failed = two.put.failed;
    rest = two.put.rest;
    split = ap (λ ps. first ++ ps) two.put.split ∙ sym (append_assoc first two.put.whole (two.put.failed ++ two.put.rest));
    one = two.put.one;
    put = subst (HasPut before.puts now.puts)
        (sym (ap (λ ps. ps ++ map not_taken two.put.failed) (map-append taken_whole first two.put.whole) ∙ append_assoc (map taken_whole first) (map taken_whole two.put.whole) (map not_taken two.put.failed)))
        (puts_both before.puts between.puts now.puts (map taken_whole first) (map taken_whole two.put.whole ++ map not_taken two.put.failed) one.put two.put.put);
  };
}

-- nothing was put
pub none-taken : (pieces : List (List ℕ)) (before now : SinkState) → now ≡ before → AreTakenInPart pieces before now
none-taken pieces before now same = record {
  took = adds_empty_prefix before.taken now.taken (concat pieces) (ap (λ (s : SinkState). s.taken) same);
  put = record {
    whole = [];
    failed = [];
    rest = pieces;
    split = refl;
    one = omega arith;
    put = puts_none before.puts now.puts (ap (λ (s : SinkState). s.puts) same);
  };
}

-- texts are cut one after another
pub cut-both : (first second pieces others : List (List ℕ)) → AreCutEach first pieces → AreCutEach second others → AreCutEach (first ++ second) (pieces ++ others)
cut-both [] second pieces others none two = subst (λ p. AreCutEach second (p ++ others)) (sym none) two
cut-both (answer ∷ first) second pieces others (own, rest, split, cut, each) two =
    (own, rest ++ others, ap (λ p. p ++ others) split ∙ append_assoc own rest others, cut, cut-both first second rest others each two)

-- one text is cut as it is
pub cut-one : (text : List ℕ) (pieces : List (List ℕ)) → AreCut text pieces → AreCutEach (text ∷ []) pieces
cut-one text pieces cut = (pieces, [], sym (append-nil pieces), cut, refl)

-- one more piece of the bytes
pub put-more : (bytes rest piece others : List ℕ) (before between now : SinkState) → IsPutUpTo bytes rest before between → rest ≡ piece ++ others
    → 0 < length piece → length piece ≤ piece_size → (0 < length others → length piece ≡ piece_size)
    → Adds between.taken now.taken piece → HasPut between.puts now.puts (taken_whole piece ∷ []) → between.faults ≤ now.faults → IsPutUpTo bytes others before now
put-more bytes rest piece others before between now p e some most full took put l = record {
  front = p.front ++ piece ∷ [];
  split = p.split ∙ ap (λ r. concat p.front ++ r) e ∙ sym (append_assoc (concat p.front) piece others) ∙ ap (λ bs. bs ++ others) (sym (concat-last p.front piece));
  goes_on = λ more are is.
      subst (ArePieces piece_size) (sym (append_assoc p.front (piece ∷ []) more))
      (p.goes_on (piece ∷ more) (pieces-more piece_size piece more some most (λ left. full (subst (λ bs. 0 < length bs) is left)) (omega arith) are)
      (ap (λ bs. piece ++ bs) is ∙ sym e));
  taken = taken-more p.front piece before between now p.taken took put;
  later = (let a = p.later in omega (arith, a, l));
}

-- pieces that were all taken are the first of themselves
pub part-of-whole : (pieces : List (List ℕ)) (before now : SinkState) → AreTaken pieces before now → AreTakenInPart pieces before now
part-of-whole pieces before now t = record {
  took = adds_whole before.taken now.taken (concat pieces) t.took;
  put = record {
    whole = pieces;
    failed = [];
    rest = [];
    split = sym (append-nil pieces);
    one = omega arith;
    put = subst (HasPut before.puts now.puts) (sym (append-nil (map taken_whole pieces))) t.put;
  };
}

pub nothing-left : (rest : List ℕ) → length rest ≡ 0 → rest ≡ []
nothing-left [] none = refl
nothing-left (b ∷ rest) none = absurd (omega (arith, none))

-- no bytes are left
pub put-all : (bytes : List ℕ) (before now : SinkState) → IsPutUpTo bytes [] before now → IsPutInPieces bytes (Ok tt) before now
put-all bytes before now p = record {
  pieces = p.front;
  cut = record { all = sym (p.split ∙ append-nil (concat p.front)); sizes = subst (ArePieces piece_size) (append-nil p.front) (p.goes_on [] tt refl) };
  part = part-of-whole p.front before now p.taken;
  whole = p.taken;
}

-- after a put that failed, the pieces before its own were taken
pub broken-put : (front : List (List ℕ)) (piece : List ℕ) (more : List (List ℕ)) (before between now : SinkState) (error : PutError)
    → AreTaken front before between → AddsPrefix between.taken now.taken piece → HasPut between.puts now.puts (put_of piece (Err error)) → AreTakenInPart (front ++ piece ∷ more) before now
broken-put front piece more before between now error t some put = record {
  took = subst (AddsPrefix before.taken now.taken) (sym (concat-append front (piece ∷ more)))
      (adds_prefix_of_both before.taken between.taken now.taken (concat front) (piece ++ concat more) t.took (adds_prefix_of_more between.taken now.taken piece (concat more) some));
  put = by error put;
}
  where
    by : (error : PutError) → HasPut between.puts now.puts (put_of piece (Err error)) → HasPutFirst before.puts now.puts (front ++ piece ∷ more)
    by Failed put = record {
      whole = front;
      failed = piece ∷ [];
      rest = more;
      split = refl;
      one = omega arith;
      put = puts_both before.puts between.puts now.puts (map taken_whole front) (not_taken piece ∷ []) t.put put;
    }
    by OutOfMemory put = record {
      whole = front;
      failed = [];
      rest = piece ∷ more;
      split = refl;
      one = omega arith;
      put = puts_both before.puts between.puts now.puts (map taken_whole front) [] t.put put;
    }

pub put-broken : (bytes rest piece others : List ℕ) (before between now : SinkState) (error : PutError) → IsPutUpTo bytes rest before between → rest ≡ piece ++ others
    → 0 < length piece → length piece ≤ piece_size → (0 < length others → length piece ≡ piece_size)
    → AddsPrefix between.taken now.taken piece → HasPut between.puts now.puts (put_of piece (Err error)) → IsPutInPieces bytes (Err error) before now
put-broken bytes rest piece others before between now error p e some most full took put =
    let more = cut-somehow piece_size (length others) others (omega arith) (omega arith) in
    let all : concat (piece ∷ more.0) ≡ rest = ap (λ bs. piece ++ bs) more.1 ∙ sym e in
    record {
      pieces = p.front ++ piece ∷ more.0;
      cut = record {
        all = concat-append p.front (piece ∷ more.0) ∙ ap (λ bs. concat p.front ++ bs) all ∙ sym p.split;
        sizes = p.goes_on (piece ∷ more.0) (pieces-more piece_size piece more.0 some most (λ left. full (subst (λ bs. 0 < length bs) more.1 left)) (omega arith) more.2) all;
      };
      part = broken-put p.front piece more.0 before between now error p.taken took put;
      whole = tt;
    }
