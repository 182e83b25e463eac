use Rattle.std.proofs.Common.{rules, ◌≡◌, ◌∙◌, ◌<◌, ◌++◌, ◌∷◌, [], Some, ap, cond, length, subst, sym}
use Rattle.std.specs.Vec.{vec_capacity, vec_len}
use Rattle.rel_base.specs.Value.{value_eq}
use Rattle.rel_base.specs.declared.value.Value.{Value}
use Rattle.version_index.specs.Chains.{lists_in, numbers_at}
use Rattle.version_index.specs.Columns.{HavePlaces, place_in}
use Rattle.version_index.proofs.Listed.{HasRoomIn, kept_more, listed_more, room_more, same_more}
use Rattle.version_index.proofs.touched.list_value.Goals as goal

pub returns-clause-listed : goal.returns-clause-listed
returns-clause-listed c =
    let old = c.args.touched.now in
    let value = c.args.value.now in
    let list = c.in_ok-numbers.numbers in
    let places = c.put_place.new.places.entries in
    let here : c.len-place.result ≡ length old.values.items = search rules in
    let put = subst (λ place. (v : Value) → place_in places v ≡ cond (value_eq v value) (Some place) (place_in old.places.entries v)) here c.in_ok-put_place.ensures.put in
    let values : c.push_reserved.new.self.items ≡ old.values.items ++ value ∷ [] = search rules in
    let lists : c.push_reserved-2.new.self.items ≡ old.lists.items ++ list ∷ [] = search rules in
    subst (λ vs. HavePlaces places vs c.push_reserved-2.new.self.items) (sym values)
    (subst (HavePlaces places (old.values.items ++ value ∷ [])) (sym lists) (listed_more old.places.entries old.values.items old.lists.items c.requires.listed places value list put c.requires.new))

-- a new value has no number yet
pub returns-clause-same : goal.returns-clause-same
returns-clause-same c v =
    let old = c.args.touched.now in
    let value = c.args.value.now in
    let list = c.in_ok-numbers.numbers in
    let places = c.put_place.new.places.entries in
    let here : c.len-place.result ≡ length old.values.items = search rules in
    let put = subst (λ place. (v : Value) → place_in places v ≡ cond (value_eq v value) (Some place) (place_in old.places.entries v)) here c.in_ok-put_place.ensures.put in
    let lists : c.push_reserved-2.new.self.items ≡ old.lists.items ++ list ∷ [] = search rules in
    ap (λ ls. numbers_at (lists_in ls) (place_in places v)) lists
    ∙ same_more old.places.entries old.values.items old.lists.items c.requires.listed places value list put c.requires.new c.in_ok-numbers.ensures.items v

pub returns-clause-room : goal.returns-clause-room
returns-clause-room c =
    let old = c.args.touched.now in
    let value = c.args.value.now in
    let list = c.in_ok-numbers.numbers in
    let places = c.put_place.new.places.entries in
    let here : c.len-place.result ≡ length old.values.items = search rules in
    let put = subst (λ place. (v : Value) → place_in places v ≡ cond (value_eq v value) (Some place) (place_in old.places.entries v)) here c.in_ok-put_place.ensures.put in
    let lists : c.push_reserved-2.new.self.items ≡ old.lists.items ++ list ∷ [] = search rules in
    let room : vec_len list < vec_capacity list = search rules in
    subst (λ ls. HasRoomIn ls (place_in places value)) (sym lists) (room_more old.places.entries old.values.items old.lists.items c.requires.listed places value list put c.requires.new room)

pub returns-clause-kept : goal.returns-clause-kept
returns-clause-kept c v room =
    let old = c.args.touched.now in
    let value = c.args.value.now in
    let list = c.in_ok-numbers.numbers in
    let places = c.put_place.new.places.entries in
    let here : c.len-place.result ≡ length old.values.items = search rules in
    let put = subst (λ place. (v : Value) → place_in places v ≡ cond (value_eq v value) (Some place) (place_in old.places.entries v)) here c.in_ok-put_place.ensures.put in
    let lists : c.push_reserved-2.new.self.items ≡ old.lists.items ++ list ∷ [] = search rules in
    subst (λ ls. HasRoomIn ls (place_in places v)) (sym lists) (kept_more old.places.entries old.values.items old.lists.items c.requires.listed places value list put c.requires.new v room)
