-- Each step of a mate keeps the rule of the table.
use Rattle.std.proofs.Common.{◌≡◌, ◌≢◌, ◌⊎◌, ℕ, zero, suc, ◌+◌, ◌*◌, ◌<◌, ◌≤◌, ◌==◌, eqb-true, eq-eqb, ne_eqb, cond, Bool, true, false, true≢false, List, [], ◌∷◌, ◌++◌, length, get_or, set, sym, refl, ap, ◌∙◌, subst, ⊎_elim, inl, inr, arith, length-set, get_or-set_same, get_or-set_other, Option, Some}
use Rattle.std.proofs.lemmas.List.{set-get_or}
use Rattle.std.proofs.lemmas.Option.{same_Some}
use mathlib.Core.Option.{some, none, some-injective, some-ne-none}
use mathlib.Core.Option as maybe
use mathlib.Core.Logic.{dite}
use native.Mathlib.Decide.{dec_le}
use lib.ListN.{get_elem?}
use prog.Atomic.{either}
use Rattle.atomic_table.specs.Table.{State, step, Act, keeps, takes, gives, stepped, Allows, Splits, Joins, Valid, carried_after, opening, Final, Seen}
use Rattle.atomic_table.proofs.Lists.{at_set, exchanged, set_here, set_else, at_longer}
use Rattle.spf_chain.specs.Chains.{ChainValue}
use Rattle.spf_crew.specs.Endings.{has_ended}
use Rattle.spf_crew.specs.declared.view.CrewSetting.{CrewSetting}
use Rattle.spf_crew.specs.declared.view.CrewView.{CrewView}
use Rattle.spf_crew.specs.Rule.{resting, holding, first, IsChainOf, IsAtHome, IsHolder, Knows, IsCrewTable, IsTake, IsLook, IsAnnounce, IsGive, IsRead, spent_view}

abbrev St : Type 0
St = State (Option ChainValue) CrewView

pub below : {A : Type 0} (l : List A) (i : ℕ) (a : A) → get_elem? l i ≡ some a → i < length l
below [] i a at = absurd (some-ne-none a (sym at))
below (x ∷ xs) zero a at = omega arith
below (x ∷ xs) (suc i) a at = let h = below xs i a at in omega arith

-- what a seat knows stays where the sequence word grows and the ending word doesn't fall
others : (k : CrewSetting) (n n' x x' h h' : ℕ) (owner : ℕ → ℕ) (j : ℕ) (v : CrewView) → n ≤ n' → (x ≡ 1 → x' ≡ 1)
    → (v.holds ≡ true → h ≡ j → v.seen ≡ n → (half : ℕ) → n ≡ 2 * half + 1 → (h' ≡ h) × (n' ≡ n)) → Knows k n x h owner j v → Knows k n' x' h' owner j v
others k n n' x x' h h' owner j v le up kept f = record {
  setting = f.setting;
  within = f.within;
  own = f.own;
  seen = let s = f.seen in omega arith;
  holds = λ out. let o = f.holds out in let g = kept out o.0 o.1 o.2.0 o.2.1 in (g.0 ∙ o.0, o.1 ∙ sym g.1, (o.2.0, g.1 ∙ o.2.1));
  read = λ yes. up (f.read yes);
}

-- a step of one seat, whose numbers stay
seat_step : (k : CrewSetting) (s : St) (r : IsCrewTable k s) (id : ℕ) (new : CrewView) (words' : List ℕ) (homes' : List (maybe.Option (Option ChainValue))) (h' : ℕ)
    → length words' ≡ 2 → get_or words' 0 0 ≤ 16384 → get_or words' 1 0 ≤ 1
    → ((half : ℕ) → get_or words' 0 0 ≡ 2 * half → (c : ChainValue) × (homes' ≡ some (Some c) ∷ []) × IsAtHome k half (get_or words' 1 0) c)
    → ((half : ℕ) → get_or words' 0 0 ≡ 2 * half + 1 → (homes' ≡ none ∷ []) × ((v : CrewView) × (get_elem? (set s.views id new) h' ≡ some v) × IsHolder (get_or words' 1 0) v))
    → get_or s.words 0 0 ≤ get_or words' 0 0 → (get_or s.words 1 0 ≡ 1 → get_or words' 1 0 ≡ 1)
    → ((j : ℕ) (v : CrewView) → j ≢ id → v.holds ≡ true → r.holder ≡ j → v.seen ≡ get_or s.words 0 0 → (half : ℕ) → get_or s.words 0 0 ≡ 2 * half + 1 → (h' ≡ r.holder) × (get_or words' 0 0 ≡ get_or s.words 0 0))
    → (new.from < new.to → Knows k (get_or words' 0 0) (get_or words' 1 0) h' r.owner id new)
    → IsCrewTable k record { words = words'; homes = homes'; views = set s.views id new }
seat_step k s r id new words' homes' h' wide last flag home away le up kept mine = record {
  holder = h';
  owner = r.owner;
  wide = wide;
  last = last;
  flag = flag;
  home = home;
  away = away;
  seats = λ j v e some_number. ⊎_elim
      (λ (t : (j ≡ id) × (new ≡ v)). subst (λ (y : ℕ × CrewView). Knows k (get_or words' 0 0) (get_or words' 1 0) h' r.owner y.0 y.1) (λ i. (sym t.0 i, t.1 i)) (mine (subst (λ (y : CrewView). y.from < y.to) (sym t.1) some_number)))
      (λ (t : (j ≢ id) × (get_elem? s.views j ≡ some v)). others k (get_or s.words 0 0) (get_or words' 0 0) (get_or s.words 1 0) (get_or words' 1 0) r.holder h' r.owner j v le up (kept j v t.0) (r.seats j v t.1 some_number))
      (at_set s.views id j new v e);
}

-- the holder is another seat, where this one holds nothing
away_else : (k : CrewSetting) (s : St) (r : IsCrewTable k s) (id : ℕ) (old new : CrewView) → get_elem? s.views id ≡ some old → old.holds ≡ false
    → (half : ℕ) → get_or s.words 0 0 ≡ 2 * half + 1 → (s.homes ≡ none ∷ []) × ((v : CrewView) × (get_elem? (set s.views id new) r.holder ≡ some v) × IsHolder (get_or s.words 1 0) v)
away_else k s r id old new at idle half odd =
    let a = r.away half odd in
    let v : CrewView = a.1.0 in
    let out : v.holds ≡ true = a.1.2.holds in
    let apart : r.holder ≢ id = λ e. true≢false (sym out ∙ (ap (λ (y : CrewView). y.holds) (some-injective v old (sym a.1.1 ∙ (ap (get_elem? s.views) e ∙ at))) ∙ idle)) in
    (a.0, (v, set_else s.views id r.holder new apart ∙ a.1.1, a.1.2))

-- a step of a seat with no chain, which changes its view alone
quiet_step : (k : CrewSetting) (s : St) (r : IsCrewTable k s) (id i : ℕ) (old new : CrewView) → get_elem? s.views id ≡ some old → old.holds ≡ false
    → (new.from < new.to → Knows k (get_or s.words 0 0) (get_or s.words 1 0) r.holder r.owner id new)
    → IsCrewTable k record { words = set s.words i (get_or s.words i 0); homes = s.homes; views = set s.views id new }
quiet_step k s r id i old new at idle mine =
    subst (λ (ws : List ℕ). IsCrewTable k record { words = ws; homes = s.homes; views = set s.views id new }) (sym (set-get_or s.words i 0))
    (seat_step k s r id new s.words s.homes r.holder r.wide r.last r.flag r.home (away_else k s r id old new at idle) (omega arith) (λ e. e) (λ j v ne out is seen half odd. (refl, refl)) mine)

-- the resting seat has seen n
seen_now : (k : CrewSetting) (n x holder : ℕ) (owner : ℕ → ℕ) (j a b seen : ℕ) (rd : Bool) → Knows k n x holder owner j (resting k a b seen rd) → Knows k n x holder owner j (resting k a b n rd)
seen_now k n x holder owner j a b seen rd f = record {
  setting = f.setting;
  within = f.within;
  own = f.own;
  seen = omega arith;
  holds = λ no. absurd (true≢false (sym no));
  read = f.read;
}

pub looks : (k : CrewSetting) (id a b seen : ℕ) (rd : Bool) (old : ℕ) → a < b
    → Allows (IsCrewTable k) 1 id (resting k a b seen rd, []) 0 (λ n. either (n == old) old n) (IsLook (step 1 0 old old none) (resting k a b seen rd, []))
looks k id a b seen rd old number s r deep at low =
    let n : ℕ = get_or s.words 0 0 in
    let mine = r.seats id (resting k a b seen rd) at number in
    let new : CrewView = resting k a b n rd in
    let F : ℕ → Type 0 = λ x. (w : CrewView) × (a' : Act (Option ChainValue)) × Valid s.homes [] a' × IsCrewTable k (stepped s 0 x id [] w a') × IsLook (step 1 0 old old none) (resting k a b seen rd, []) n (w, carried_after [] a') in
    let same : F n = (
      new,
      keeps,
      tt,
      quiet_step k s r id 0 (resting k a b seen rd) new at refl (λ _. seen_now k n (get_or s.words 1 0) r.holder r.owner id a b seen rd mine),
      (r.last, refl),
    ) in
    exchanged n old old F (λ e. subst F e same) (λ ne. same)

pub reads : (k : CrewSetting) (id a b seen : ℕ) (rd : Bool) → a < b
    → Allows (IsCrewTable k) 1 id (resting k a b seen rd, []) 1 (λ n. n) (IsRead (step 1 1 0 0 none) (resting k a b seen rd, []))
reads k id a b seen rd number s r deep at low =
    let x : ℕ = get_or s.words 1 0 in
    let mine = r.seats id (resting k a b seen rd) at number in
    let new : CrewView = resting k a b seen (x == 1) in (
      new,
      keeps,
      tt,
      quiet_step k s r id 1 (resting k a b seen rd) new at refl (λ _. record {
        setting = mine.setting;
        within = mine.within;
        own = mine.own;
        seen = mine.seen;
        holds = λ no. absurd (true≢false (sym no));
        read = eqb-true x 1;
      }),
      (refl, mine.read),
    )

pub takes_chain : (k : CrewSetting) (id a b half seen : ℕ) (rd : Bool) → a < b → half < 8192
    → Allows (IsCrewTable k) 1 id (resting k a b seen rd, []) 0 (λ n. either (n == 2 * half) (2 * half + 1) n) (IsTake (step 1 0 (2 * half) (2 * half + 1) none) (resting k a b seen rd, []))
takes_chain k id a b half seen rd number small s r deep at low =
    let n : ℕ = get_or s.words 0 0 in
    let mine = r.seats id (resting k a b seen rd) at number in
    let wide = r.wide in
    let F : ℕ → Type 0 = λ x. (w : CrewView) × (a' : Act (Option ChainValue)) × Valid s.homes [] a' × IsCrewTable k (stepped s 0 x id [] w a') × IsTake (step 1 0 (2 * half) (2 * half + 1) none) (resting k a b seen rd, []) n (w, carried_after [] a') in
    exchanged n (2 * half) (2 * half + 1) F
    (λ e. let h = r.home half e in
    let c : ChainValue = h.0 in
    let new : CrewView = holding k a b (2 * half + 1) (has_ended c) rd in
    let words' : List ℕ = set s.words 0 (2 * half + 1) in
    let there : get_or words' 0 0 ≡ 2 * half + 1 = get_or-set_same s.words 0 (2 * half + 1) 0 (omega arith) in
    let ending : get_or words' 1 0 ≡ get_or s.words 1 0 = get_or-set_other s.words 0 1 (2 * half + 1) 0 (λ q. omega arith) in
    let room : id < length s.views = below s.views id (resting k a b seen rd) at in
    let flag = r.flag in (
      new,
      takes 0 (Some c),
      ap (λ (l : List (maybe.Option (Option ChainValue))). get_elem? l 0) h.1,
      seat_step k s r id new words' (set s.homes 0 none) id (length-set s.words 0 (2 * half + 1) ∙ r.wide) (omega arith) (omega arith)
          (λ other is. absurd (omega arith))
          (λ other is. (ap (λ (l : List (maybe.Option (Option ChainValue))). set l 0 none) h.1, (new, set_here s.views id new room, record { number = number; holds = refl; announced = λ one. h.2.ended (sym ending ∙ one) })))
          (omega arith) (λ one. ending ∙ one)
          (λ j v ne out is seen other odd. absurd (omega arith))
          (λ _. record {
            setting = mine.setting;
            within = mine.within;
            own = mine.own;
            seen = omega arith;
            holds = λ _. (refl, sym there, (half, there));
            read = λ yes. ending ∙ mine.read yes;
          }),
      (r.last, (λ _. (c, (λ t. (holding k a b (sym e t + 1) (has_ended c) rd, (0, Some c) ∷ [])), (let x = h.2.reports in omega arith), (λ z is. subst (λ y. IsChainOf y c) (same_Some k z is) h.2.of))), (λ ne. absurd (ne e))),
    ))
    (λ ne. (
      resting k a b n rd,
      keeps,
      tt,
      quiet_step k s r id 0 (resting k a b seen rd) (resting k a b n rd) at refl (λ _. seen_now k n (get_or s.words 1 0) r.holder r.owner id a b seen rd mine),
      (r.last, (λ e. absurd (ne e)), (λ _. refl)),
    ))

pub announces : (k : CrewSetting) (id a b n : ℕ) (e rd : Bool) (c : Option ChainValue) → a < b
    → Allows (IsCrewTable k) 1 id (holding k a b n e rd, (0, c) ∷ []) 1 (λ _. 1) (λ _. IsAnnounce (step 1 1 1 0 none) (holding k a b n e rd, (0, c) ∷ []) 1)
announces k id a b n e rd c number s r deep at low =
    let mine = r.seats id (holding k a b n e rd) at number in
    let out = mine.holds refl in
    let half : ℕ = out.2.0 in
    let odd : get_or s.words 0 0 ≡ 2 * half + 1 = out.2.1 in
    let new : CrewView = holding k a b n true true in
    let wide = r.wide in
    let words' : List ℕ = set s.words 1 1 in
    let there : get_or words' 1 0 ≡ 1 = get_or-set_same s.words 1 1 0 (omega arith) in
    let turn : get_or words' 0 0 ≡ get_or s.words 0 0 = get_or-set_other s.words 1 0 1 0 (λ q. omega arith) in
    let room : id < length s.views = below s.views id (holding k a b n e rd) at in
    let last = r.last in (
      new,
      keeps,
      tt,
      seat_step k s r id new words' s.homes r.holder (length-set s.words 1 1 ∙ r.wide) (omega arith) (omega arith)
          (λ other is. absurd (omega arith))
          (λ other is. ((r.away half odd).0, (new, ap (get_elem? (set s.views id new)) out.0 ∙ set_here s.views id new room, record { number = number; holds = refl; announced = λ _. refl })))
          (omega arith) (λ _. there)
          (λ j v ne h is seen other also. (refl, turn))
          (λ _. record {
            setting = mine.setting;
            within = mine.within;
            own = mine.own;
            seen = let x = mine.seen in omega arith;
            holds = λ _. (out.0, out.1 ∙ sym turn, (half, turn ∙ odd));
            read = λ _. there;
          }),
      refl,
    )

pub gives_chain : (k : CrewSetting) (id a b half : ℕ) (e rd : Bool) (c : ChainValue) → a < b → half < 8192 → c.reports ≡ half + 1 → IsChainOf k c → (e ≡ true → has_ended c ≡ true)
    → Allows (IsCrewTable k) 1 id (holding k a b (2 * half + 1) e rd, (0, Some c) ∷ []) 0 (λ _. 2 * half + 2) (λ _. IsGive (step 1 0 (2 * half + 2) 0 none) (holding k a b (2 * half + 1) e rd, (0, Some c) ∷ []) (2 * half + 2))
gives_chain k id a b half e rd c number small reports of ended s r deep at low =
    let mine = r.seats id (holding k a b (2 * half + 1) e rd) at number in
    let out = mine.holds refl in
    let was : 2 * half + 1 ≡ get_or s.words 0 0 = out.1 in
    let new : CrewView = resting k a b (2 * half + 2) rd in
    let wide = r.wide in
    let words' : List ℕ = set s.words 0 (2 * half + 2) in
    let there : get_or words' 0 0 ≡ 2 * half + 2 = get_or-set_same s.words 0 (2 * half + 2) 0 (omega arith) in
    let ending : get_or words' 1 0 ≡ get_or s.words 1 0 = get_or-set_other s.words 0 1 (2 * half + 2) 0 (λ q. omega arith) in
    let away = r.away half (sym was) in
    let me_holds : away.1.0 ≡ holding k a b (2 * half + 1) e rd = some-injective away.1.0 (holding k a b (2 * half + 1) e rd) (sym away.1.1 ∙ (ap (get_elem? s.views) out.0 ∙ at)) in
    let flag = r.flag in (
      new,
      gives,
      tt,
      seat_step k s r id new words' (set s.homes 0 (some (Some c))) r.holder (length-set s.words 0 (2 * half + 2) ∙ r.wide) (omega arith) (omega arith)
          (λ other is. (
            c,
            ap (λ (l : List (maybe.Option (Option ChainValue))). set l 0 (some (Some c))) away.0,
            record {
              of = of;
              reports = omega arith;
              ended = λ one. ended (sym (ap (λ (y : CrewView). y.announced) me_holds) ∙ away.1.2.announced (sym ending ∙ one));
            },
          ))
          (λ other is. absurd (omega arith))
          (omega arith) (λ one. ending ∙ one)
          (λ j v ne h is seen other odd. absurd (ne (sym is ∙ out.0)))
          (λ _. record {
            setting = mine.setting;
            within = mine.within;
            own = mine.own;
            seen = omega arith;
            holds = λ no. absurd (true≢false (sym no));
            read = λ yes. ending ∙ mine.read yes;
          }),
      refl,
    )

-- a function with one value changed, and one with all values b changed to c
abbrev put : (ℕ → ℕ) → ℕ → ℕ → ℕ → ℕ
put f i c j = cond (j == i) c (f j)

abbrev moved : (ℕ → ℕ) → ℕ → ℕ → ℕ → ℕ
moved f b c j = cond (f j == b) c (f j)

put_here : (f : ℕ → ℕ) (i c : ℕ) → put f i c i ≡ c
put_here f i c = ap (λ t. cond t c (f i)) (eq-eqb i i refl)

put_else : (f : ℕ → ℕ) (i c j : ℕ) → j ≢ i → put f i c j ≡ f j
put_else f i c j ne = ap (λ t. cond t c (f j)) (ne_eqb j i ne)

moved_there : (f : ℕ → ℕ) (b c j : ℕ) → f j ≡ b → moved f b c j ≡ c
moved_there f b c j e = ap (λ t. cond t c (f j)) (eq-eqb (f j) b e)

moved_else : (f : ℕ → ℕ) (b c j : ℕ) → f j ≢ b → moved f b c j ≡ f j
moved_else f b c j ne = ap (λ t. cond t c (f j)) (ne_eqb (f j) b ne)

pub snoc_at : {A : Type 0} (l : List A) (a b : A) (j : ℕ) → get_elem? (l ++ a ∷ []) j ≡ some b → (get_elem? l j ≡ some b) ⊎ ((j ≡ length l) × (a ≡ b))
snoc_at [] a b zero e = inr (refl, some-injective a b e)
snoc_at [] a b (suc j) e = absurd (some-ne-none b (sym e))
snoc_at (x ∷ xs) a b zero e = inl e
snoc_at (x ∷ xs) a b (suc j) e = ⊎_elim inl (λ (t : (j ≡ length xs) × (a ≡ b)). inr (ap suc t.0, t.1)) (snoc_at xs a b j e)

-- another seat's numbers stay its own
keeps_own : (k : CrewSetting) (n x holder : ℕ) (owner owner' : ℕ → ℕ) (j : ℕ) (v : CrewView) → ((m : ℕ) → v.from ≤ m → m < v.to → owner m ≡ j → owner' m ≡ j) → Knows k n x holder owner j v → Knows k n x holder owner' j v
keeps_own k n x holder owner owner' j v own f = record {
  setting = f.setting;
  within = f.within;
  own = λ m low high. own m low high (f.own m low high);
  seen = f.seen;
  holds = f.holds;
  read = f.read;
}

pub enlists : (k : CrewSetting) (id a b seen : ℕ) (rd : Bool) → a < b → Splits (IsCrewTable k) id (resting k a b seen rd) (resting k (a + 1) b seen rd) (resting k a (a + 1) seen rd)
enlists k id a b seen rd number s r at =
    let n : ℕ = get_or s.words 0 0 in
    let x : ℕ = get_or s.words 1 0 in
    let left : CrewView = resting k (a + 1) b seen rd in
    let right : CrewView = resting k a (a + 1) seen rd in
    let mine = r.seats id (resting k a b seen rd) at number in
    let to : ℕ = length s.views in
    let room : id < to = below s.views id (resting k a b seen rd) at in
    let owner' : ℕ → ℕ = put r.owner a to in
    let long : length (set s.views id left) ≡ to = length-set s.views id left in
    let within = mine.within in record {
      holder = r.holder;
      owner = owner';
      wide = r.wide;
      last = r.last;
      flag = r.flag;
      home = r.home;
      away = λ half odd. let h = away_else k s r id (resting k a b seen rd) left at refl half odd in (h.0, (h.1.0, at_longer (set s.views id left) (right ∷ []) r.holder h.1.0 h.1.1, h.1.2));
      seats = λ j v e some_number. ⊎_elim
          (λ e. ⊎_elim
          (λ (t : (j ≡ id) × (left ≡ v)). subst (λ (y : ℕ × CrewView). Knows k n x r.holder owner' y.0 y.1) (λ i. (sym t.0 i, t.1 i)) record {
            setting = mine.setting;
            within = mine.within;
            own = λ m low high. put_else r.owner a to m (λ e. omega arith) ∙ mine.own m (omega arith) high;
            seen = mine.seen;
            holds = λ no. absurd (true≢false (sym no));
            read = mine.read;
          })
          (λ (t : (j ≢ id) × (get_elem? s.views j ≡ some v)). keeps_own k n x r.holder r.owner owner' j v (λ m low high is. put_else r.owner a to m (λ e. t.0 (sym is ∙ (ap r.owner e ∙ mine.own a (omega arith) number))) ∙ is) (r.seats j v t.1 some_number))
          (at_set s.views id j left v e))
          (λ (t : (j ≡ length (set s.views id left)) × (right ≡ v)). subst (λ (y : ℕ × CrewView). Knows k n x r.holder owner' y.0 y.1) (λ i. (sym (t.0 ∙ long) i, t.1 i)) record {
            setting = mine.setting;
            within = omega arith;
            own = λ m low high. let e : m ≡ a = omega arith in ap owner' e ∙ put_here r.owner a to;
            seen = mine.seen;
            holds = λ no. absurd (true≢false (sym no));
            read = mine.read;
          })
          (snoc_at (set s.views id left) right v j e);
    }

pub dismisses : (k : CrewSetting) (id other a b c seen seen' : ℕ) (rd rd' : Bool) → a < b → b < c
    → Joins (IsCrewTable k) id (resting k a b seen rd) other (resting k b c seen' rd') (resting k a c seen rd) spent_view
dismisses k id other a b c seen seen' rd rd' number also s r at apart there =
    let n : ℕ = get_or s.words 0 0 in
    let x : ℕ = get_or s.words 1 0 in
    let both : CrewView = resting k a c seen rd in
    let was : get_elem? s.views other ≡ some (resting k b c seen' rd') = sym (set_else s.views id other both apart) ∙ there in
    let mine = r.seats id (resting k a b seen rd) at number in
    let its = r.seats other (resting k b c seen' rd') was also in
    let owner' : ℕ → ℕ = moved r.owner other id in
    let left_out : (half : ℕ) → n ≡ 2 * half + 1 → r.holder ≢ other = λ half odd e. let h = r.away half odd in
    true≢false (sym h.1.2.holds ∙ ap (λ (w : CrewView). w.holds) (some-injective h.1.0 (resting k b c seen' rd') (sym h.1.1 ∙ (ap (get_elem? s.views) e ∙ was)))) in record {
      holder = r.holder;
      owner = owner';
      wide = r.wide;
      last = r.last;
      flag = r.flag;
      home = r.home;
      away = λ half odd. let h = away_else k s r id (resting k a b seen rd) both at refl half odd in (h.0, (h.1.0, set_else (set s.views id both) other r.holder spent_view (left_out half odd) ∙ h.1.1, h.1.2));
      seats = λ j v e some_number. ⊎_elim
          (λ (t : (j ≡ other) × (spent_view ≡ v)). absurd (let low = subst (λ (w : CrewView). w.from < w.to) (sym t.1) some_number in omega arith))
          (λ (out : (j ≢ other) × (get_elem? (set s.views id both) j ≡ some v)). ⊎_elim
          (λ (t : (j ≡ id) × (both ≡ v)). subst (λ (w : ℕ × CrewView). Knows k n x r.holder owner' w.0 w.1) (λ i. (sym t.0 i, t.1 i)) record {
            setting = mine.setting;
            within = its.within;
            own = λ m low high. dite (dec_le b m)
                (λ up. moved_there r.owner other id m (its.own m up high))
                (λ down. let is : r.owner m ≡ id = mine.own m low (omega arith) in moved_else r.owner other id m (λ e. apart (sym e ∙ is)) ∙ is);
            seen = mine.seen;
            holds = λ no. absurd (true≢false (sym no));
            read = mine.read;
          })
          (λ (t : (j ≢ id) × (get_elem? s.views j ≡ some v)). keeps_own k n x r.holder r.owner owner' j v (λ m low high is. moved_else r.owner other id m (λ e. out.0 (sym is ∙ e)) ∙ is) (r.seats j v t.1 some_number))
          (at_set s.views id j both v out.1))
          (at_set (set s.views id both) other j spent_view v e);
    }

-- the table at the start
pub opens : (k : CrewSetting) (c : ChainValue) → IsChainOf k c → c.reports ≡ 0 → IsCrewTable k (opening (0 ∷ 0 ∷ []) (Some c ∷ []) (first k))
opens k c of reports = record {
  holder = 0;
  owner = λ _. 0;
  wide = refl;
  last = omega arith;
  flag = omega arith;
  home = λ half even. (c, refl, record { of = of; reports = omega arith; ended = λ one. absurd (omega arith) });
  away = λ half odd. absurd (omega arith);
  seats = λ j v e some_number. let t = alone (first k) v j e in subst (λ (y : ℕ × CrewView). Knows k 0 0 0 (λ _. 0) y.0 y.1) (λ i. (sym t.0 i, t.1 i)) record {
    setting = refl;
    within = omega arith;
    own = λ m low high. refl;
    seen = omega arith;
    holds = λ no. absurd (true≢false (sym no));
    read = λ no. absurd (true≢false (sym no));
  };
}
  where
    alone : (v w : CrewView) (j : ℕ) → get_elem? (v ∷ []) j ≡ some w → (j ≡ 0) × (v ≡ w)
    alone v w zero at = (refl, some-injective v w at)
    alone v w (suc j) at = absurd (some-ne-none w (sym at))

-- each number is even or odd
abbrev Parity : ℕ → Type 0
Parity n = ((half : ℕ) × (n ≡ 2 * half)) ⊎ ((half : ℕ) × (n ≡ 2 * half + 1))

parity : (n : ℕ) → Parity n
parity zero = inl (0, refl)
parity (suc n) = ⊎_elim (λ (t : (half : ℕ) × (n ≡ 2 * half)). let e = t.1 in inr (t.0, omega arith)) (λ (t : (half : ℕ) × (n ≡ 2 * half + 1)). let e = t.1 in inl (t.0 + 1, omega arith)) (parity n)

-- where one seat has all numbers and has read 1, the chain is at home and has ended
pub closes : (k : CrewSetting) (id seen : ℕ) (s : St) → IsCrewTable k s → get_elem? s.views id ≡ some (resting k 0 k.mates seen true) → 0 < k.mates
    → (c : ChainValue) × (s.homes ≡ some (Some c) ∷ []) × IsChainOf k c × (has_ended c ≡ true)
closes k id seen s r at number =
    let n : ℕ = get_or s.words 0 0 in
    let mine = r.seats id (resting k 0 k.mates seen true) at number in
    let one : get_or s.words 1 0 ≡ 1 = mine.read refl in
    ⊎_elim
    (λ (even : (half : ℕ) × (n ≡ 2 * half)). let h = r.home even.0 even.1 in (h.0, h.1, h.2.of, h.2.ended one))
    (λ (odd : (half : ℕ) × (n ≡ 2 * half + 1)). let h = r.away odd.0 odd.1 in
    let v : CrewView = h.1.0 in
    let its = r.seats r.holder v h.1.1 h.1.2.number in
    let number_of = h.1.2.number in
    let within = its.within in
    let same : r.holder ≡ id = sym (its.own v.from (omega arith) h.1.2.number) ∙ mine.own v.from (omega arith) (omega arith) in
    absurd (true≢false (sym h.1.2.holds ∙ ap (λ (w : CrewView). w.holds) (some-injective v (resting k 0 k.mates seen true) (sym h.1.1 ∙ (ap (get_elem? s.views) same ∙ at))))))
    (parity n)

-- what is taken out of the slot at the end, where one seat has all numbers and has read 1
pub left_over : (k : CrewSetting) (id : ℕ) (v : CrewView) → v ≡ resting k v.from v.to v.seen v.read → v.from < v.to → v.from ≡ 0 → v.to ≡ k.mates → v.read ≡ true
    → (ws : List ℕ) (xs : List (Option ChainValue)) → Final (Seen (IsCrewTable k) id v) ws xs → (o : Option ChainValue) → get_elem? xs 0 ≡ some o
    → (x : ChainValue) × (o ≡ Some x) × IsChainOf k x × (has_ended x ≡ true)
left_over k id v is number from to read ws xs final o out =
    let s : St = final.0 in
    let mine : v ≡ resting k 0 k.mates v.seen true = is ∙ (λ t. resting k (from t) (to t) v.seen (read t)) in
    let h = closes k id v.seen s final.1.0 (final.1.1 ∙ ap some mine) (omega arith) in
    let home : get_elem? s.homes 0 ≡ some (some (Some h.0)) = ap (λ (l : List (maybe.Option (Option ChainValue))). get_elem? l 0) h.1 in
    (h.0, some-injective o (Some h.0) (sym out ∙ final.4 0 (Some h.0) home), h.2, h.3)
