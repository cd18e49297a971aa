-- What contracts see of an opener and a pass, and what is true of their fields.
use Rattle.std.specs.Prelude.{◌≡◌, ℕ, ◌%◌, ◌^◌, Bool, true, if◌then◌else◌, List, [], ◌∷◌, Option, None}
use Rattle.turn_lock.specs.Turns.{turns_of, OpenerState, PassState}
use Rattle.turn_lock.specs.declared.tokens.Opener.TheInside as opener
use Rattle.turn_lock.specs.declared.tokens.Pass.TheInside as pass

-- what a pass holds: in a turn the slot, which is empty, and else nothing
abbrev pub held_in : {X : Type 0} → Bool → List (ℕ × Option X)
held_in in_turn = if in_turn then (0, None) ∷ [] else []

module _ {X E K : Type 0} where
  abbrev pub opener_shown : opener.Inside X E K → OpenerState E K
  opener_shown o = record {
    lock = record { table = o.seat.table_id; key = o.seat.me.0.about };
    out = o.out;
    splits = o.seat.me.0.splits;
    seen = o.seat.me.0.seen;
    fronts = o.seat.me.0.fronts;
    own = o.seat.me.0.own;
  }

  -- it is the opener's seat, and its number out is its view's
  pub record IsOpener (o : opener.Inside X E K) : Type 0 where
    pub opens : o.seat.me.0.opens ≡ true
    pub out : o.seat.me.0.out ≡ o.out

  abbrev pub pass_shown : pass.Inside X E K → PassState E K
  pass_shown p = record {
    lock = record { table = p.seat.table_id; key = p.seat.me.0.about };
    number = p.seat.me.0.number;
    in_turn = p.seat.me.0.serves;
    seen = p.seat.me.0.seen;
    own = p.seat.me.0.own;
  }

  -- It was not joined. It holds a ticket just while it has a turn, which is the one that it drew last, and then its own turns are those of its number.
  pub record IsPass (p : pass.Inside X E K) : Type 0 where
    pub live : p.seat.me.0.live ≡ true
    pub draws : p.seat.me.0.draws ≡ p.seat.me.0.serves
    pub holds : p.seat.me.1 ≡ held_in p.seat.me.0.serves
    pub ticket : p.seat.me.0.serves ≡ true → p.ticket ≡ p.seat.me.0.ticket % 2 ^ 64
    pub turns : p.seat.me.0.serves ≡ true → turns_of p.seat.me.0.number p.seat.me.0.seen ≡ p.seat.me.0.own
