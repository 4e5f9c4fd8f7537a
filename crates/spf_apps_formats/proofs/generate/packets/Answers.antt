use Rattle.std.proofs.Common.{◌≡◌, ◌⊎◌, inl, inr, ℕ, suc, ◌<◌, ◌++◌, List, length, arith, sym, subst}
use Rattle.spf_apps_formats.specs.Draws.{packets, packet_from}
use Rattle.spf_apps_formats.proofs.generate.packets.Goals as goal

-- a number below the next one is below this one, or is this one
split : (k n : ℕ) → k < suc n → (k < n) ⊎ (k ≡ n)
split k n h = grind arith

pub loop-draws-preserved : goal.loop-draws-preserved
loop-draws-preserved c =
    let before = c.loop-draws.invariant in (
      suc before.0,
      subst (λ (p : List ℕ × ℕ). ◌≡◌ {A = List ℕ × ℕ} (c.push_packet.new.file.items, c.push_packet.new.draws.state) (p.0 ++ (packet_from p.1).0, (packet_from p.1).1)) before.1
          (λ i. (c.in_ok-push_packet.ensures.file i, c.in_ok-push_packet.ensures.state i)),
      λ fewer h. elim (split fewer before.0 h) [
        | inl earlier ↦ before.2 fewer earlier
        | inr last ↦ subst (λ n. length (packets n c.args.seed).0 < c.args.size) (sym last) (subst (λ (p : List ℕ × ℕ). length p.0 < c.args.size) before.1 (omega arith))
      ],
    )
