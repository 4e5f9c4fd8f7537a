-- Each step of the warden keeps the rule of the table.
use Rattle.std.proofs.Common.{◌≡◌, ◌≢◌, ◌⊎◌, ℕ, zero, suc, ◌+◌, ◌<◌, ◌≤◌, max, List, [], ◌∷◌, ◌++◌, length, get_or, set, sym, refl, ap, ◌∙◌, subst, ⊎_elim, inl, inr, arith, length-set, get_or-set_other, get_or-set_same}
use Rattle.std.proofs.lemmas.List.{set-get_or}
use Rattle.std.specs.Int.{cast_signed}
use Rattle.std.specs.List.{Contains}
use mir.Syntax.{w64}
use mathlib.Core.Option.{some, none, some-ne-none, some-injective}
use lib.ListN.{get_elem?}
use mathlib.Core.Logic.{dite}
use native.Mathlib.Decide.{ℕ_discrete, dec_le}
use Rattle.atomic_table.specs.Table.{step, keeps, Allows, Splits, Joins}
use Rattle.atomic_table.proofs.Lists.{at_set, set_else, set_again}
use Rattle.spf_cells.specs.declared.view.Setting.{Setting}
use Rattle.spf_cells.specs.declared.view.LogEntry.{LogEntry}
use Rattle.spf_cells.specs.declared.view.TakenLane.{TakenLane}
use Rattle.spf_cells.specs.declared.view.WardenView.{WardenView}
use Rattle.spf_cells.specs.declared.view.Role.{Role}
use Rattle.spf_cells.specs.declared.view.Role.TheVariants.{Spent, Lane, Warden}
use Rattle.spf_cells.specs.declared.view.View.{View}
use Rattle.spf_cells.specs.Log.{content}
use Rattle.spf_cells.specs.Spans.{cells_with_blocks}
use Rattle.spf_cells.specs.Rule.{blocks, view_of, OwnsTaken, Knows, HasSetting, IsConsistentTable, IsRaise, IsReadBack, role_after_hand_out, role_handed_out, role_after_take_over, spent_view}
use Rattle.spf_cells.proofs.Logs.{put, put_here, put_else}
use Rattle.spf_cells.proofs.LaneRule.{at_own}

with_flags : WardenView → ℕ → ℕ → WardenView
with_flags p b x = record p { flags = set p.flags b x }

-- another seat is no warden, so a flag may change
no_warden : (n : ℕ) (words words' : List ℕ) (logs : ℕ → List LogEntry) (owner : ℕ → ℕ) (warden j id : ℕ) (role : Role) → warden ≡ id → j ≢ id
    → Knows n words logs owner warden j role → Knows n words' logs owner warden j role
no_warden n words words' logs owner warden j id Spent mine other h = tt
no_warden n words words' logs owner warden j id (Lane c l) mine other h = h
no_warden n words words' logs owner warden j id (Warden p) mine other h = absurd (other (sym h.one ∙ mine))

pub raises : (key z : Setting) (slots id b x : ℕ) (p : WardenView) (carried : List (ℕ × ℕ)) → b < blocks z → x ≤ 1 → (0 < x → Contains z.raisable b)
    → Allows (IsConsistentTable key) slots id (view_of z (Warden p), carried) b (λ n. max n x) (IsRaise (step slots b x 0 none) (view_of z (Warden p), carried))
raises key z slots id b x p carried inside small may =
    at_own key z (Warden p) slots id b carried (λ n. max n x) (IsRaise (step slots b x 0 none) (view_of z (Warden p), carried)) (λ k h. h)
    (λ s r at. let n : ℕ = get_or s.words b 0 in
    let mine = r.seats id (view_of z (Warden p)) at in
    let words' : List ℕ = set s.words b (max n x) in
    let wide = r.wide in
    let room : b < length s.words = omega arith in
    let was : n ≡ get_or p.flags b 0 = mine.flags b inside in
    let p' : WardenView = record p { flags = set p.flags b (max (get_or p.flags b 0) x) } in
    let new : View = view_of z (Warden p') in
    let ok = r.flags b inside in (
      new,
      keeps,
      tt,
      record {
        logs = r.logs;
        owner = r.owner;
        warden = r.warden;
        apart = r.apart;
        wide = length-set s.words b (max n x) ∙ r.wide;
        cells = λ i q is. ap (cast_signed w64) (get_or-set_other s.words b (blocks z + i) (max n x) 0 (λ e. omega arith)) ∙ r.cells i q is;
        flags = λ c l. dite (ℕ_discrete c b)
            (λ e. subst (λ (y : ℕ × ℕ). (y.0 ≤ 1) × (0 < y.0 → Contains z.raisable y.1))
            (λ t. (sym (ap (λ d. get_or words' d 0) e ∙ get_or-set_same s.words b (max n x) 0 room) t, sym e t))
            ((let one = ok.0 in omega arith), (λ above. dite (dec_le 1 x) (λ yes. may yes) (λ no. ok.1 (omega arith)))))
            (λ ne. subst (λ (y : ℕ). (y ≤ 1) × (0 < y → Contains z.raisable c)) (sym (get_or-set_other s.words b c (max n x) 0 ne)) (r.flags c l));
        settings = λ j v e. ⊎_elim (λ (t : (j ≡ id) × (new ≡ v)). subst (λ (y : View). HasSetting z y.setting y.role) t.1 refl)
            (λ (t : (j ≢ id) × (get_elem? s.views j ≡ some v)). r.settings j v t.1) (at_set s.views id j new v e);
        seats = λ j v e. ⊎_elim (λ (t : (j ≡ id) × (new ≡ v)). subst (λ (y : View). Knows (blocks z) words' r.logs r.owner r.warden j y.role) t.1 record {
          one = mine.one ∙ sym t.0;
          count = length-set p.flags b (max (get_or p.flags b 0) x) ∙ mine.count;
          flags = (λ c l. dite (ℕ_discrete c b)
              (λ same. ap (λ d. get_or words' d 0) same ∙ (get_or-set_same s.words b (max n x) 0 room ∙ (ap (λ y. max y x) was
              ∙ (sym (get_or-set_same p.flags b (max (get_or p.flags b 0) x) 0 (let m = mine.count in omega arith)) ∙ ap (λ d. get_or p'.flags d 0) (sym same)))))
              (λ ne. get_or-set_other s.words b c (max n x) 0 ne ∙ (mine.flags c l ∙ sym (get_or-set_other p.flags b c (max (get_or p.flags b 0) x) 0 ne))));
          taken = subst (λ y. OwnsTaken r.logs r.owner y p.taken) (sym t.0) mine.taken;
          once = mine.once;
          handed_out = mine.handed_out;
          kept = (λ c m. let o = mine.kept c m in (o.0 ∙ sym t.0, o.1));
        })
            (λ (t : (j ≢ id) × (get_elem? s.views j ≡ some v)). no_warden (blocks z) s.words words' r.logs r.owner r.warden j id v.role mine.one t.0 (r.seats j v t.1))
            (at_set s.views id j new v e);
      },
      (refl, mine.once),
    ))

pub at_snoc_here : {A : Type 0} (l : List A) (a b : A) (j : ℕ) → get_elem? (l ++ a ∷ []) j ≡ some b → (get_elem? l j ≡ some b) ⊎ ((j ≡ length l) × (a ≡ b))
at_snoc_here [] a b zero e = inr (refl, some-injective a b e)
at_snoc_here [] a b (suc j) e = absurd (some-ne-none b (sym e))
at_snoc_here (x ∷ xs) a b zero e = inl e
at_snoc_here (x ∷ xs) a b (suc j) e = ⊎_elim inl (λ (t : (j ≡ length xs) × (a ≡ b)). inr (ap suc t.0, t.1)) (at_snoc_here xs a b j e)

-- what a seat knows stays, where a block that is not its own gets another owner
module _ (n : ℕ) (words : List ℕ) (logs : ℕ → List LogEntry) (owner : ℕ → ℕ) (warden j b to id : ℕ) where
  still : (role : Role) → owner b ≢ j → warden ≡ id → j ≢ id → Knows n words logs owner warden j role → Knows n words logs (put owner b to) warden j role
  still Spent mine w other h = tt
  still (Lane c l) mine w other h = (h.0, put_else owner b to c (λ e. mine (ap owner (sym e) ∙ h.1)) ∙ h.1, h.2)
  still (Warden p) mine w other h = absurd (other (sym h.one ∙ w))

pub splits : (key z : Setting) (id : ℕ) (p : WardenView) → p.made < blocks z → Splits (IsConsistentTable key) id (view_of z (Warden p)) (view_of z (role_after_hand_out (Warden p))) (view_of z (role_handed_out (Warden p)))
splits key z id p room s r at =
    let same : z ≡ key = r.settings id (view_of z (Warden p)) at in
    let left : View = view_of z (role_after_hand_out (Warden p)) in
    let right : View = view_of z (role_handed_out (Warden p)) in
    let Goal : Setting → Type 0 = λ k. IsConsistentTable k s → IsConsistentTable k record { words = s.words; homes = s.homes; views = set s.views id left ++ right ∷ [] } in
    let go : Goal z = λ r.
    let mine = r.seats id (view_of z (Warden p)) at in
    let b : ℕ = p.made in
    let to : ℕ = length s.views in
    let owns = mine.kept b (omega arith) in
    let owner' : ℕ → ℕ = put r.owner b to in
    let long : length (set s.views id left) ≡ to = length-set s.views id left in record {
      logs = r.logs;
      owner = owner';
      warden = r.warden;
      apart = r.apart;
      wide = r.wide;
      cells = r.cells;
      flags = r.flags;
      settings = λ j v e. ⊎_elim (λ e. ⊎_elim (λ (t : (j ≡ id) × (left ≡ v)). subst (λ (y : View). HasSetting z y.setting y.role) t.1 refl)
          (λ (t : (j ≢ id) × (get_elem? s.views j ≡ some v)). r.settings j v t.1) (at_set s.views id j left v e))
          (λ (t : (j ≡ length (set s.views id left)) × (right ≡ v)). subst (λ (y : View). HasSetting z y.setting y.role) t.1 refl)
          (at_snoc_here (set s.views id left) right v j e);
      seats = λ j v e. ⊎_elim (λ e. ⊎_elim
          (λ (t : (j ≡ id) × (left ≡ v)). subst (λ (y : View). Knows (blocks z) s.words r.logs owner' r.warden j y.role) t.1 record {
            one = mine.one ∙ sym t.0;
            count = mine.count;
            flags = mine.flags;
            taken = (λ i u is. let o = mine.taken i u is in (put_else r.owner b to u.block (λ e. let h = mine.handed_out i u is in omega arith) ∙ (o.0 ∙ sym t.0), o.1));
            once = mine.once;
            handed_out = (λ i u is. let h = mine.handed_out i u is in omega arith);
            kept = (λ c m. let o = mine.kept c (omega arith) in (put_else r.owner b to c (λ e. omega arith) ∙ (o.0 ∙ sym t.0), o.1));
          })
          (λ (t : (j ≢ id) × (get_elem? s.views j ≡ some v)). still (blocks z) s.words r.logs r.owner r.warden j b to id v.role (λ e. t.0 (sym e ∙ owns.0)) mine.one t.0 (r.seats j v t.1))
          (at_set s.views id j left v e))
          (λ (t : (j ≡ length (set s.views id left)) × (right ≡ v)). subst (λ (y : View). Knows (blocks z) s.words r.logs owner' r.warden j y.role) t.1
          (room, put_here r.owner b to ∙ sym (t.0 ∙ long), owns.1))
          (at_snoc_here (set s.views id left) right v j e);
    } in
    subst Goal same go r

pub joins : (key z y : Setting) (id other b : ℕ) (p : WardenView) (log : List LogEntry)
    → Joins (IsConsistentTable key) id (view_of z (Warden p)) other (view_of y (Lane b log)) (view_of z (role_after_take_over (Warden p) (Lane b log))) spent_view
joins key z y id other b p log s r at apart there =
    let same : z ≡ key = r.settings id (view_of z (Warden p)) at in
    let both : View = view_of z (role_after_take_over (Warden p) (Lane b log)) in
    let was : get_elem? s.views other ≡ some (view_of y (Lane b log)) = sym (set_else s.views id other both apart) ∙ there in
    let Goal : Setting → Type 0 = λ k. IsConsistentTable k s → IsConsistentTable k record { words = s.words; homes = s.homes; views = set (set s.views id both) other spent_view } in
    let go : Goal z = λ r.
    let mine = r.seats id (view_of z (Warden p)) at in
    let its = r.seats other (view_of y (Lane b log)) was in
    let owner' : ℕ → ℕ = put r.owner b id in
    let below_made : b < p.made = dite (dec_le p.made b) (λ le. absurd (apart (sym its.1 ∙ (mine.kept b le).0))) (λ no. omega arith) in
    let new : TakenLane = record { block = b; log = log } in
    let not_new : (i : ℕ) (u : TakenLane) → get_elem? p.taken i ≡ some u → u.block ≢ b = λ i u is e. apart (sym its.1 ∙ (ap r.owner (sym e) ∙ (mine.taken i u is).0)) in record {
      logs = r.logs;
      owner = owner';
      warden = r.warden;
      apart = r.apart;
      wide = r.wide;
      cells = r.cells;
      flags = r.flags;
      settings = λ j v e. ⊎_elim (λ (t : (j ≡ other) × (spent_view ≡ v)). subst (λ (x : View). HasSetting z x.setting x.role) t.1 tt)
          (λ (t : (j ≢ other) × (get_elem? (set s.views id both) j ≡ some v)). ⊎_elim (λ (t : (j ≡ id) × (both ≡ v)). subst (λ (x : View). HasSetting z x.setting x.role) t.1 refl)
          (λ (t : (j ≢ id) × (get_elem? s.views j ≡ some v)). r.settings j v t.1) (at_set s.views id j both v t.1))
          (at_set (set s.views id both) other j spent_view v e);
      seats = λ j v e. ⊎_elim (λ (t : (j ≡ other) × (spent_view ≡ v)). subst (λ (x : View). Knows (blocks z) s.words r.logs owner' r.warden j x.role) t.1 tt)
          (λ (out : (j ≢ other) × (get_elem? (set s.views id both) j ≡ some v)). ⊎_elim
          (λ (t : (j ≡ id) × (both ≡ v)). subst (λ (x : View). Knows (blocks z) s.words r.logs owner' r.warden j x.role) t.1 record {
            one = mine.one ∙ sym t.0;
            count = mine.count;
            flags = mine.flags;
            taken = (λ i u is. ⊎_elim (λ e. let o = mine.taken i u e in (put_else r.owner b id u.block (not_new i u e) ∙ (o.0 ∙ sym t.0), o.1))
                (λ (n : (i ≡ length p.taken) × (new ≡ u)). (ap owner' (ap (λ w. w.block) (sym n.1)) ∙ (put_here r.owner b id ∙ sym t.0), ap r.logs (ap (λ w. w.block) (sym n.1)) ∙ (its.2 ∙ ap (λ w. w.log) n.1)))
                (at_snoc_here p.taken new u i is));
            once = (λ i k u w iu kw same. ⊎_elim
                (λ e. ⊎_elim (λ f. mine.once i k u w e f same) (λ (n : (k ≡ length p.taken) × (new ≡ w)). absurd (not_new i u e (same ∙ ap (λ w. w.block) (sym n.1)))) (at_snoc_here p.taken new w k kw))
                (λ (m : (i ≡ length p.taken) × (new ≡ u)). ⊎_elim (λ f. absurd (not_new k w f (sym same ∙ ap (λ w. w.block) (sym m.1))))
                (λ (n : (k ≡ length p.taken) × (new ≡ w)). m.0 ∙ sym n.0) (at_snoc_here p.taken new w k kw))
                (at_snoc_here p.taken new u i iu));
            handed_out = (λ i u is. ⊎_elim (λ e. mine.handed_out i u e) (λ (n : (i ≡ length p.taken) × (new ≡ u)). subst (λ (w : TakenLane). w.block < p.made) n.1 below_made) (at_snoc_here p.taken new u i is));
            kept = (λ c m. let o = mine.kept c m in (put_else r.owner b id c (λ e. omega arith) ∙ (o.0 ∙ sym t.0), o.1));
          })
          (λ (t : (j ≢ id) × (get_elem? s.views j ≡ some v)). still (blocks z) s.words r.logs r.owner r.warden j b id id v.role (λ e. out.0 (sym e ∙ its.1)) mine.one t.0 (r.seats j v t.1))
          (at_set s.views id j both v out.1))
          (at_set (set s.views id both) other j spent_view v e);
    } in
    subst Goal same go r

pub reads_back : (key z : Setting) (slots id i : ℕ) (p : WardenView) (carried : List (ℕ × ℕ))
    → Allows (IsConsistentTable key) slots id (view_of z (Warden p), carried) (blocks z + i) (λ n. n) (IsReadBack (step slots (blocks z + i) 0 0 none) (view_of z (Warden p), carried))
reads_back key z slots id i p carried =
    at_own key z (Warden p) slots id (blocks z + i) carried (λ n. n) (IsReadBack (step slots (blocks z + i) 0 0 none) (view_of z (Warden p), carried)) (λ k h. h)
    (λ s r at. let mine = r.seats id (view_of z (Warden p)) at in (
      view_of z (Warden p),
      keeps,
      tt,
      subst (λ (x : List ℕ × List View). IsConsistentTable z record { words = x.0; homes = s.homes; views = x.1 })
          (λ t. (sym (set-get_or s.words (blocks z + i) 0) t, sym (set_again s.views id (view_of z (Warden p)) at) t)) r,
      (
        refl,
        (λ k c j t is taken pair. let o = mine.taken j t taken in
            let here : k ≡ i = omega arith in
            r.cells i (t.block, c) (ap (get_elem? (cells_with_blocks z.plan)) (sym here) ∙ pair) ∙ ap (λ l. content z l c) o.1),
      ),
    ))
