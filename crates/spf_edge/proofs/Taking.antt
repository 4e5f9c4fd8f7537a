-- What several puts add one after another.
use Rattle.std.proofs.Common.{◌≡◌, ℕ, List, [], ◌++◌, take, drop, Option, Some, None, is_some, option_map, refl, sym, ap, ◌∙◌, append_assoc, Result, Ok, Err, OnOk}
use Rattle.spf_edge.specs.declared.sink.PutError.{PutError}
use Rattle.spf_edge.specs.declared.sink.PutError.TheVariants.{Failed, OutOfMemory}
use Rattle.std.proofs.lemmas.List.{take-append-drop, append-nil}
use Rattle.spf_edge.specs.Bytes.{joined, Adds, AddsPrefix}
use Rattle.spf_edge.specs.Puts.{Put, HasPut}

-- no bytes join to what was there
pub joined-nil : (taken : Option (List ℕ)) → joined taken [] ≡ taken
joined-nil None = refl
joined-nil (Some before) = ap Some (append-nil before)

-- bytes joined in two steps are joined in one
pub joined-joined : (taken : Option (List ℕ)) (first second : List ℕ) → joined (joined taken first) second ≡ joined taken (first ++ second)
joined-joined None first second = refl
joined-joined (Some before) first second = ap Some (append_assoc before first second)

-- where nothing changes, no bytes were added
pub adds_none : (old new : Option (List ℕ)) → new ≡ old → Adds old new []
adds_none old new same = same ∙ sym (joined-nil old)

-- after two puts the two pieces were added, joined
pub adds_both : (old between new : Option (List ℕ)) (first second : List ℕ) → Adds old between first → Adds between new second → Adds old new (first ++ second)
adds_both old between new first second one two =
    two ∙ ap (λ (taken : Option (List ℕ)). joined taken second) one ∙ joined-joined old first second

-- the first bytes of a piece are a prefix of it
pub takes_front : (old new piece : List ℕ) (count : ℕ) → new ≡ old ++ take count piece → AddsPrefix (Some old) (Some new) piece
takes_front old new piece count is = record { front = take count piece; rest = drop count piece; split = sym (take-append-drop count piece); added = ap Some is }

-- a whole piece is a prefix of itself
pub adds_whole : (old new : Option (List ℕ)) (piece : List ℕ) → Adds old new piece → AddsPrefix old new piece
adds_whole old new piece added = record { front = piece; rest = []; split = sym (append-nil piece); added = added }

-- where nothing changes, the empty prefix was added
pub adds_empty_prefix : (old new : Option (List ℕ)) (piece : List ℕ) → new ≡ old → AddsPrefix old new piece
adds_empty_prefix old new piece same = record { front = []; rest = piece; split = refl; added = adds_none old new same }

-- whatever a put in memory answers, it added the front of its piece
pub put_adds_front : (result : Result (Unit {0}) PutError) (old new piece : List ℕ) (keeps : ℕ)
    → OnOk result (new ≡ old ++ piece)
    → (result ≡ Err Failed → new ≡ old ++ take keeps piece)
    → (result ≡ Err OutOfMemory → new ≡ old)
    → AddsPrefix (Some old) (Some new) piece
put_adds_front (Ok done) old new piece keeps added kept nothing = adds_whole (Some old) (Some new) piece (ap Some added)
put_adds_front (Err Failed) old new piece keeps added kept nothing = takes_front old new piece keeps (kept refl)
put_adds_front (Err OutOfMemory) old new piece keeps added kept nothing = adds_empty_prefix (Some old) (Some new) piece (ap Some (nothing refl))

-- a prefix of the first bytes is one of the whole
pub adds_prefix_of_more : (old new : Option (List ℕ)) (first second : List ℕ) → AddsPrefix old new first → AddsPrefix old new (first ++ second)
adds_prefix_of_more old new first second some = record {
  front = some.front;
  rest = some.rest ++ second;
  split = ap (λ (bytes : List ℕ). bytes ++ second) some.split ∙ append_assoc some.front some.rest second;
  added = some.added;
}

-- a whole piece and then a prefix of the next are a prefix of the two
pub adds_prefix_of_both : (old between new : Option (List ℕ)) (first second : List ℕ) → Adds old between first → AddsPrefix between new second → AddsPrefix old new (first ++ second)
adds_prefix_of_both old between new first second one some = record {
  front = first ++ some.front;
  rest = some.rest;
  split = ap (λ (bytes : List ℕ). first ++ bytes) some.split ∙ sym (append_assoc first some.front some.rest);
  added = adds_both old between new first some.front one some.added;
}

-- whether a sink tells never changes
pub is_some-joined : (taken : Option (List ℕ)) (bytes : List ℕ) → is_some (joined taken bytes) ≡ is_some taken
is_some-joined None bytes = refl
is_some-joined (Some before) bytes = refl

-- a sink that tells nothing claims nothing of what was added
pub adds_untold : (piece : List ℕ) → AddsPrefix None None piece
adds_untold piece = adds_empty_prefix None None piece refl

-- ---- puts

-- where nothing changes, no put was made
pub puts_none : (old new : Option (List Put)) → new ≡ old → HasPut old new []
puts_none None new same = same
puts_none (Some before) new same = same ∙ ap Some (sym (append-nil before))

-- puts that were made after others were made with them
pub puts_both : (old between new : Option (List Put)) (first second : List Put) → HasPut old between first → HasPut between new second → HasPut old new (first ++ second)
puts_both old between new first second one two =
    two ∙ ap (λ (puts : Option (List Put)). option_map (λ before. before ++ second) puts) one ∙ joined_twice old
  where
    joined_twice : (puts : Option (List Put)) → option_map (λ before. before ++ second) (option_map (λ before. before ++ first) puts) ≡ option_map (λ before. before ++ (first ++ second)) puts
    joined_twice None = refl
    joined_twice (Some before) = ap Some (append_assoc before first second)
