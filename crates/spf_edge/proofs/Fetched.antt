-- What several fetches leave one after another.
use Rattle.std.proofs.Common.{ℕ, ◌≤◌, List, [], ◌∷◌, ◌++◌, Option, refl, sym, ap, ◌∙◌, subst, append_assoc, Result, Ok, Err, arith}
use Rattle.std.specs.List.{AllByRecursion}
use Rattle.std.proofs.lemmas.List.{append-nil, map-append}
use Rattle.spf_edge.specs.declared.files.FetchError.{FetchError}
use Rattle.spf_edge.specs.declared.files.FetchError.TheVariants.{Missing, Failed, TooLong, OutOfMemory}
use Rattle.spf_edge.specs.Entries.{Entry}
use Rattle.spf_edge.specs.Faults.{Rose}
use Rattle.spf_edge.specs.Fetches.{FilesState, Fetch, Gives, IsGiven, HasFetched, AreMade}

-- ---- names

-- where nothing changes, nothing was fetched
pub fetched_none : (names : Option (List (List ℕ))) → HasFetched names names []
fetched_none names all are = (all, are, sym (append-nil all))

-- names that were fetched after others were fetched with them
pub fetched_both : (old between new : Option (List (List ℕ))) (first second : List (List ℕ)) → HasFetched old between first → HasFetched between new second → HasFetched old new (first ++ second)
fetched_both old between new first second one two all are =
    let later = two all are in
    let sooner = one later.0 later.1 in
    (sooner.0, sooner.1, later.2 ∙ ap (λ (names : List (List ℕ)). names ++ second) sooner.2 ∙ append_assoc sooner.0 first second)

-- ---- faults

rose-later : (a b c : ℕ) → Rose a b → b ≤ c → Rose a c
rose-later a b c rose later = omega (arith, rose, later)

rose-sooner : (a b c : ℕ) → a ≤ b → Rose b c → Rose a c
rose-sooner a b c sooner rose = grind (arith, rose, sooner)

-- ---- what was given

gives-as : (told : Option (List Entry)) (Fault Other : Type 0) (name : List ℕ) (limit : ℕ) (gave : Result (List ℕ) FetchError) → (Fault → Other) → Gives told Fault name limit gave → Gives told Other name limit gave
gives-as told Fault Other name limit (Ok content) f given = given
gives-as told Fault Other name limit (Err Missing) f given = given
gives-as told Fault Other name limit (Err Failed) f given = f given
gives-as told Fault Other name limit (Err TooLong) f given = given
gives-as told Fault Other name limit (Err OutOfMemory) f given = given

-- a fault of a part is one of the whole
pub given-as : (told : Option (List Entry)) (Fault Other : Type 0) → (Fault → Other) → (fetches : List Fetch) → AllByRecursion (IsGiven told Fault) fetches → AllByRecursion (IsGiven told Other) fetches
given-as told Fault Other f [] given = tt
given-as told Fault Other f (fetch ∷ fetches) given = (gives-as told Fault Other fetch.name fetch.limit fetch.gave f given.0, given-as told Fault Other f fetches given.1)

pub given-both : (P : Fetch → Type 0) (first second : List Fetch) → AllByRecursion P first → AllByRecursion P second → AllByRecursion P (first ++ second)
given-both P [] second one two = two
given-both P (fetch ∷ first) second one two = (one.0, given-both P first second one.1 two)

-- ---- fetches

-- where nothing changes, no fetch was made
pub made_none : (state : FilesState) → AreMade state state []
made_none state = record { told = refl; names = fetched_none state.fetches; given = tt; later = omega arith }

-- fetches that were made after others were made with them
pub made_both : (old between new : FilesState) (first second : List Fetch) → AreMade old between first → AreMade between new second → AreMade old new (first ++ second)
made_both old between new first second one two = record {
  told = two.told ∙ one.told;
  names = subst (HasFetched old.fetches new.fetches) (sym (map-append (λ (fetch : Fetch). fetch.name) first second))
      (fetched_both old.fetches between.fetches new.fetches _ _ one.names two.names);
  given = given-both (IsGiven old.told (Rose old.faults new.faults)) first second
      (given-as old.told _ _ (λ rose. rose-later old.faults between.faults new.faults rose two.later) first one.given)
      (subst (λ told. AllByRecursion (IsGiven told (Rose old.faults new.faults)) second) one.told
      (given-as between.told _ _ (λ rose. rose-sooner old.faults between.faults new.faults one.later rose) second two.given));
  later = (let a = one.later in let b = two.later in omega (arith, a, b));
}
