-- Six draws, one after another.
use Rattle.sb_gen.proofs.States.{state_of_next, value_of_next}
use Rattle.sb_gen.proofs.generator.Generator.draws.Goals as goal

pub returns-clause-values : goal.returns-clause-values
returns-clause-values c =
    let x = c.args.self.now.state in
    let one = c.next-kind.ensures.state in
    let two = state_of_next x 1 _ _ one c.next-size.ensures.state in
    let three = state_of_next x 2 _ _ two c.next-device.ensures.state in
    let four = state_of_next x 3 _ _ three c.next-words.ensures.state in
    let five = state_of_next x 4 _ _ four c.next-page.ensures.state in
    let size = value_of_next x 1 _ _ one c.next-size.ensures.value in
    let device = value_of_next x 2 _ _ two c.next-device.ensures.value in
    let words = value_of_next x 3 _ _ three c.next-words.ensures.value in
    let page = value_of_next x 4 _ _ four c.next-page.ensures.value in
    let place = value_of_next x 5 _ _ five c.next-place.ensures.value in
    cc

pub returns-clause-state : goal.returns-clause-state
returns-clause-state c =
    let x = c.args.self.now.state in
    let one = c.next-kind.ensures.state in
    let two = state_of_next x 1 _ _ one c.next-size.ensures.state in
    let three = state_of_next x 2 _ _ two c.next-device.ensures.state in
    let four = state_of_next x 3 _ _ three c.next-words.ensures.state in
    let five = state_of_next x 4 _ _ four c.next-page.ensures.state in
    state_of_next x 5 _ _ five c.next-place.ensures.state
