-- The chainings that belong to a handler, and the latest of them: the scan finds those of document 01's sentence, and what one more entry at the end
-- does to them.
use mathlib.Core.Path.{◌≡◌, refl, sym, ap, ◌∙◌}
use mathlib.Core.Bool.{Bool, true, false, cond}
use mathlib.Core.Logic.{◌⊎◌, inl, inr}
use mathlib.Core.List.{List, [], ◌∷◌, ◌++◌, map, append_assoc, append-nil}
use lib.Seq.{append_snoc}
use Rattle.nesting.specs.Lists.{Member, Rising, add_if, last_or}
use Rattle.nesting.specs.Trace.{Entry, taking, chaining, returning, other, Place, step_in, place_of, Has, latest_after, chains, chainings_from}
use Rattle.nesting.specs.Trace.{chainings, ChainingOf, ChainingsFound, served, Served, by_taking, by_chaining, ServedFound}
use Rattle.nesting.proofs.Lists.{all-of-members, all-at, member-add, rising-unique}
use Rattle.nesting.proofs.OwnReturns.{extend}
use Rattle.nesting.proofs.Opens.{has-asym, scan-latest, latest-scan, Nest, latest-nest}

module _ {X : Type 0} where
  abbrev steps : List (Place X) → List X
  steps = map (λ (c : Place X). c.at)

  -- One more entry at the end is one more chaining of the handler, or none.
  chainings-extend : (i : Entry X) (since l : List (Entry X))
      → chainings_from since (l ++ (i ∷ [])) ≡ map (extend (i ∷ [])) (chainings_from since l) ++ add_if (chains (since ++ l) i) (place_of i []) []
  chainings-extend i since [] = rw append-nil
  chainings-extend i since (e ∷ l) =
      rw (chainings-extend i (since ++ (e ∷ [])) l, append_snoc since e l) (go (chains since e))
    where
      go : (b : Bool)
          → add_if b (place_of e (l ++ (i ∷ [])))
          (map (extend (i ∷ [])) (chainings_from (since ++ (e ∷ [])) l) ++ add_if (chains (since ++ e ∷ l) i) (place_of i []) [])
          ≡ map (extend (i ∷ [])) (add_if b (place_of e l) (chainings_from (since ++ (e ∷ [])) l)) ++ add_if (chains (since ++ e ∷ l) i) (place_of i []) []
      go true = refl
      go false = refl

  last-extend : (i : Entry X) (b : Bool) (x : X) (cs : List (Place X))
      → last_or x (steps (map (extend (i ∷ [])) cs ++ add_if b (place_of i []) [])) ≡ cond b (step_in i) (last_or x (steps cs))
  last-extend i true x [] = refl
  last-extend i false x [] = refl
  last-extend i b x (c ∷ cs) = last-extend i b c.at cs

  -- So one more entry serves the handler only as a chaining of it.
  pub served-extend : (i : Entry X) (t : Place X) → served (extend (i ∷ []) t) ≡ cond (chains t.after i) (step_in i) (served t)
  served-extend i t = rw (chainings-extend i [] t.after) (last-extend i (chains t.after i) t.at (chainings t))

  pub served-last : (y : X) (h : Place X) → Nest (h ∷ []) → served (extend (chaining y ∷ []) h) ≡ y
  served-last y h n = served-extend (chaining y) h ∙ rw (latest-nest h [] n)

  pub served-below : (y : X) (h g : Place X) (hs : List (Place X)) → Nest (h ∷ g ∷ hs) → served (extend (chaining y ∷ []) h) ≡ served h
  served-below y h g hs n = served-extend (chaining y) h ∙ rw (latest-nest h (g ∷ hs) n)

  -- A chaining of the list at which the handler is the latest, `since` the entries from its taking to the list.
  record Chained (since l : List (Entry X)) (c : Place X) : Type 0 where
    between : List (Entry X)
    whole : l ≡ between ++ chaining c.at ∷ c.after
    latest : latest_after (since ++ between) ≡ true

  chained-cons : (since : List (Entry X)) (e : Entry X) (l : List (Entry X)) (c : Place X) → Chained (since ++ (e ∷ [])) l c → Chained since (e ∷ l) c
  chained-cons since e l c w =
      record { between = e ∷ w.between; whole = ap (e ∷◌) w.whole; latest = rw append_snoc at w.latest }

  scan-chained : (since l : List (Entry X)) (c : Place X) → Member c (chainings_from since l) → Chained since l c
  scan-chained since [] c m = absurd m
  scan-chained since (e ∷ l) c m = go e m (scan-chained (since ++ (e ∷ [])) l c)
    where
      at-chaining : (x : X) (b : Bool) → latest_after since ≡ b
          → Member c (add_if b (place_of (chaining x) l) (chainings_from (since ++ (chaining x ∷ [])) l))
          → (Member c (chainings_from (since ++ (chaining x ∷ [])) l) → Chained (since ++ (chaining x ∷ [])) l c) → Chained since (chaining x ∷ l) c
      at-chaining x true p (inl q) i = rw q (record { between = []; whole = refl; latest = rw append-nil p })
      at-chaining x true p (inr q) i = chained-cons since (chaining x) l c (i q)
      at-chaining x false p q i = chained-cons since (chaining x) l c (i q)

      go : (e : Entry X) → Member c (chainings_from since (e ∷ l))
          → (Member c (chainings_from (since ++ (e ∷ [])) l) → Chained (since ++ (e ∷ [])) l c) → Chained since (e ∷ l) c
      go (taking x) q i = chained-cons since (taking x) l c (i q)
      go (chaining x) q i = at-chaining x (latest_after since) refl q i
      go (returning x) q i = chained-cons since (returning x) l c (i q)
      go (other x) q i = chained-cons since (other x) l c (i q)

  chained-scan : (since l : List (Entry X)) (c : Place X) → Chained since l c → Member c (chainings_from since l)
  chained-scan since l c w = rw w.whole (go since w.between w.latest)
    where
      go : (since between : List (Entry X)) → latest_after (since ++ between) ≡ true
          → Member c (chainings_from since (between ++ chaining c.at ∷ c.after))
      go since [] p = let q : latest_after since ≡ true = rw append-nil at p in rw q (inl refl)
      go since (e ∷ between) p =
          member-add (chains since e) (place_of e (between ++ chaining c.at ∷ c.after))
          (chainings_from (since ++ (e ∷ [])) (between ++ chaining c.at ∷ c.after)) c
          (go (since ++ (e ∷ [])) between (rw append_snoc p))

  -- Each of the scan's list is a chaining of the handler, and the other way round.
  are-chainings : (l : List (Entry X)) (t : Place X) → Has taking l t → (c : Place X) → Member c (chainings t) → ChainingOf l t c
  are-chainings l t h c m = go (scan-chained [] t.after c m)
    where
      go : Chained [] t.after c → ChainingOf l t c
      go w =
          record {
            before = h.0 ++ taking t.at ∷ w.between;
            whole =
                h.1 ∙ ap (λ k. h.0 ++ taking t.at ∷ k) w.whole
                ∙ sym (append_assoc h.0 (taking t.at ∷ w.between) (chaining c.at ∷ c.after));
            since = w.between;
            later = w.whole;
            latest =
                scan-latest (h.0 ++ taking t.at ∷ w.between) (record { at = t.at; after = w.between }) (h.0, refl) w.latest;
          }

  chainings-are : (l : List (Entry X)) (t c : Place X) → ChainingOf l t c → Member c (chainings t)
  chainings-are l t c w =
      chained-scan [] t.after c
      (record {
        between = w.since;
        whole = w.later;
        latest = latest-scan w.before (record { at = t.at; after = w.since }) w.latest;
      })

  in_order : (since l : List (Entry X)) → Rising (λ c d. Has chaining c.after d) (chainings_from since l)
  in_order since [] = tt
  in_order since (e ∷ l) = go (chains since e) (in_order (since ++ (e ∷ [])) l)
    where
      go : (b : Bool) → Rising (λ c d. Has chaining c.after d) (chainings_from (since ++ (e ∷ [])) l)
          → Rising (λ c d. Has chaining c.after d) (add_if b (place_of e l) (chainings_from (since ++ (e ∷ [])) l))
      go true i = (
        all-of-members (λ d. Has chaining l d) (chainings_from (since ++ (e ∷ [])) l)
            (λ d m. let w = scan-chained (since ++ (e ∷ [])) l d m in (w.between, w.whole)),
        i,
      )
      go false i = i

  pub chainings-found : (l : List (Entry X)) (t : Place X) → Has taking l t → ChainingsFound l t
  chainings-found l t h cs = (
    (λ e. rw (← e) (record { each = λ c. (are-chainings l t h c, chainings-are l t c); order = in_order [] t.after })),
    (λ w. rising-unique (λ c d. Has chaining c.after d) (has-asym chaining) (chainings t) cs (in_order [] t.after) w.order
        (λ c. ((λ m. (w.each c).1 (are-chainings l t h c m)), (λ m. chainings-are l t c ((w.each c).0 m))))),
  )

  -- The last of a list of chainings in order: none of them comes after it.
  record LastOf (x : X) (cs : List (Place X)) : Type 0 where
    last : Place X
    here : Member last cs
    step : last_or x (steps cs) ≡ last.at
    none_after : (d : Place X) → Member d cs → Has chaining last.after d → ⊥

  last_of : (x : X) (c : Place X) (cs : List (Place X)) → Rising (λ c d. Has chaining c.after d) (c ∷ cs) → LastOf x (c ∷ cs)
  last_of x c [] r = record { last = c; here = inl refl; step = refl; none_after = alone }
    where
      alone : (d : Place X) → (d ≡ c) ⊎ ⊥ → Has chaining c.after d → ⊥
      alone d (inl e) h = let g : Has chaining c.after c = rw e at h in has-asym chaining c c g g
      alone d (inr m) h = m
  last_of x c (b ∷ cs) r = go (last_of c.at b cs r.1)
    where
      go : LastOf c.at (b ∷ cs) → LastOf x (c ∷ b ∷ cs)
      go w = record { last = w.last; here = inr w.here; step = w.step; none_after = none_of }
        where
          none_of : (d : Place X) → (d ≡ c) ⊎ Member d (b ∷ cs) → Has chaining w.last.after d → ⊥
          none_of d (inl e) h =
              has-asym chaining c w.last (all-at (λ d. Has chaining c.after d) (b ∷ cs) w.last r.0 w.here) (rw e at h)
          none_of d (inr m) h = w.none_after d m h

  -- One that no other comes after is the last.
  is_last : (x : X) (cs : List (Place X)) (c : Place X) → Rising (λ c d. Has chaining c.after d) cs → Member c cs
      → ((d : Place X) → Member d cs → Has chaining c.after d → ⊥) → last_or x (steps cs) ≡ c.at
  is_last x [] c r m n = absurd m
  is_last x (b ∷ []) c r (inl e) n = sym (ap (λ (z : Place X). z.at) e)
  is_last x (b ∷ []) c r (inr m) n = absurd m
  is_last x (b ∷ d ∷ cs) c r (inl e) n = absurd (n d (inr (inl refl)) (rw e r.0.0))
  is_last x (b ∷ d ∷ cs) c r (inr m) n = is_last b.at (d ∷ cs) c r.1 m (λ z k. n z (inr k))

  served-is : (l : List (Entry X)) (t : Place X) → Has taking l t → Served l t (served t)
  served-is l t h = go (chainings t) refl
    where
      go : (cs : List (Place X)) → chainings t ≡ cs → Served l t (last_or t.at (steps cs))
      go [] e = by_taking (λ c w. rw e at (chainings-are l t c w))
      go (c ∷ cs) e = at_last (last_of t.at c cs (rw e at (in_order [] t.after)))
        where
          at_last : LastOf t.at (c ∷ cs) → Served l t (last_or t.at (steps (c ∷ cs)))
          at_last w =
              rw w.step
              (by_chaining w.last (are-chainings l t h w.last (rw e w.here)) (λ d k. w.none_after d (rw e at (chainings-are l t d k))))

  is-served : (l : List (Entry X)) (t : Place X) → Has taking l t → (x : X) → Served l t x → served t ≡ x
  is-served l t h x (by_taking k) = go (chainings t) refl
    where
      go : (cs : List (Place X)) → chainings t ≡ cs → last_or t.at (steps cs) ≡ t.at
      go [] e = refl
      go (c ∷ cs) e = absurd (k c (are-chainings l t h c (rw e (inl refl))))
  is-served l t h x (by_chaining c w k) =
      is_last t.at (chainings t) c (in_order [] t.after) (chainings-are l t c w) (λ d m. k d (are-chainings l t h d m))

  pub served-found : (l : List (Entry X)) (t : Place X) → Has taking l t → ServedFound l t
  served-found l t h x = ((λ e. rw (← e) (served-is l t h)), is-served l t h x)
